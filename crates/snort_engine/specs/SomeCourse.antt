-- Whatever is asked for has a course.
--
-- A course is a relation (`Course`), as the meaning of a rule line is, and nothing has two of them (`HasOneCourse`).
-- Here it is said that everything has one: all words, all files, every test that says which rules match, and
-- whichever rule lines have a pattern that the maker refuses. So what the theorem says of the course of words is said
-- of some course.
-- To try it on: where a file that is read is lacking, the course stops with HostFault; where a line of it is refused,
-- with Refused; where the file of `--read-unified2` has a byte that begins no record, with BadCapture.
use Rattle.std.specs.Prelude.{ℕ, List, Option}
use Rattle.edge_io.specs.Files.{Files}
use Rattle.option_eval.specs.Places.{Means}
use Rattle.command_words.specs.CommandLine.{Asked}
use Rattle.rule_eval.specs.Hits.{Test, Tells}
use Rattle.snort_engine.specs.declared.status.Status.{Status}
use Rattle.snort_engine.specs.Course.{Course, Given, given, IsCourse}
use Rattle.snort_engine.specs.Headline.{HasAnswer}

-- words, files, a test and refused lines have a course
abbrev pub HasSomeCourse : Type 0
HasSomeCourse = (asked : Option Asked) (here : Given) → (course : Course) × IsCourse asked here course

-- whatever the maker means, and whichever lines it refuses, a test tells what it means, and there is an answer by it
pub record HasSomeAnswer (asked : Option Asked) (files : Files) (means : Means) (refused : List ℕ) : Type 0 where
  pub matches : Test
  pub tells : Tells means matches
  pub ended : Status
  pub answer : HasAnswer asked (given files matches refused) ended
