-- Words have some course, over all files, for every test and whichever lines are refused.
use Rattle.std.proofs.Common.{◌≡◌, ℕ, ◌<◌, ◌≤◌, ◌⊎◌, inl, inr, List, [], length, Option, Some, None, refl}
use Rattle.std.specs.FinMap.{get}
use Rattle.std.proofs.lemmas.Bool.{cases_lt}
use Rattle.edge_io.specs.Files.{Files}
use Rattle.option_eval.specs.Places.{Means}
use Rattle.command_words.specs.CommandLine.{Asked, help, version, records_of, run}
use Rattle.rule_eval.proofs.Tells.{test_of, test_of-tells}
use Rattle.snort_engine.specs.declared.status.Status.TheVariants as status
use Rattle.snort_engine.specs.Answer.{answer_of}
use Rattle.snort_engine.specs.Course.{Course, IsCourse, IsFileWay, Lists, Stops, Way, course_by, given, most_file_bytes, setup_words, stopping}
use Rattle.snort_engine.specs.Messages.{bad_unified2_text, cannot_read_text, command_line_text, too_large_text, usage_text, version_text}
use Rattle.alert_lines.specs.RecordLines.{entry_lines}
use Rattle.snort_engine.specs.SomeCourse.{HasSomeAnswer, HasSomeCourse}
use Rattle.snort_engine.proofs.Courses.SomeFileWays.{AreOrBad, are_or_bad}
use Rattle.snort_engine.proofs.Courses.SomeSetups.{some_setup}

-- a file has a way
some_way : (name : List ℕ) (contents : Option (List ℕ)) → (way : Way) × IsFileWay name contents way
some_way name None = (Stops (cannot_read_text name) status.HostFault, refl)
some_way name (Some bytes) = by_length (cases_lt most_file_bytes (length bytes))
  where
    by_kind : length bytes ≤ most_file_bytes → AreOrBad bytes → (way : Way) × IsFileWay name (Some bytes) way
    by_kind short (inl (entries, are)) = (Lists (entry_lines entries), inr (short, inl (record { entries = entries; are = are; is = refl })))
    by_kind short (inr (place, bad)) = (Stops (bad_unified2_text place) status.BadCapture, inr (short, inr (record { place = place; bad = bad; is = refl })))

    by_length : (most_file_bytes < length bytes) ⊎ (length bytes ≤ most_file_bytes) → (way : Way) × IsFileWay name (Some bytes) way
    by_length (inl long) = (Stops (too_large_text name) status.Refused, inl (long, refl))
    by_length (inr short) = by_kind short (are_or_bad bytes)

-- words have a course
pub some_course : HasSomeCourse
unfolding IsCourse
some_course None here = (stopping command_line_text status.Refused, refl)
some_course (Some help) here = (stopping usage_text status.Done, refl)
some_course (Some version) here = (stopping version_text status.Done, refl)
some_course (Some (records_of file)) here =
    let way = some_way file (get here.files file) in
    (record { warnings = []; way = way.0 }, record { unwarned = refl; way = way.1 })
some_course (Some (run wanted)) here =
    let setup = some_setup (setup_words wanted) here.files here.refused in
    (course_by here.matches wanted setup.0, (setup.0, setup.1, refl))

-- words and files have an answer, whatever the maker means
pub some_answer : (asked : Option Asked) (files : Files) (means : Means) (refused : List ℕ) → HasSomeAnswer asked files means refused
some_answer asked files means refused =
    let matches = test_of means in
    let course = some_course asked (given files matches refused) in
    record {
      matches = matches;
      tells = test_of-tells means;
      ended = (answer_of files course.0).status;
      answer = record { course = course.0; is = course.1; status = refl };
    }
