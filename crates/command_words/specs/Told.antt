-- The answers of the code, as the plain reading has them.
use Rattle.std.specs.Prelude.{◌≡◌, ℕ, List, Option, Some, None, Result, Ok, Err, option_map}
use Rattle.std.specs.Borrow.{Bor}
use Rattle.command_words.specs.declared.asked.Command.{Command}
use Rattle.command_words.specs.declared.asked.Command.TheVariants as command
use Rattle.command_words.specs.declared.asked.Words.{Words}
use Rattle.command_words.specs.declared.asked.Definition.{Definition}
use Rattle.command_words.specs.declared.read.WordsFault.{WordsFault}
use Rattle.command_words.specs.declared.read.WordsFault.TheVariants as fault
use Rattle.command_words.specs.CommandLine.{Asked, help, version, records_of, run, Run, Defined}

abbrev pub lent : Bor (List ℕ) → List ℕ
lent word = word.now

abbrev pub defined_of : Definition → Defined
defined_of d = record { name = d.name.now; value = d.value.now }

abbrev pub run_of : Words → Run
run_of w = record {
  conf = w.conf.now;
  capture = option_map lent w.capture;
  checks = w.checks;
  limit = w.limit;
  defined = option_map defined_of w.defined;
  host_table = option_map lent w.host_table;
  lanes = w.lanes;
  flush_point = w.flush_point;
  generate = w.generate;
  seed = w.seed;
  quiet = w.quiet;
  test = w.test;
  skip_refused = w.skip_refused;
  stats = w.stats;
  form = w.form;
}

-- what the answer asks for
abbrev pub asked : Command → Asked
asked command.Help = help
asked command.Version = version
asked (command.ReadUnified2 file) = records_of file.now
asked (command.Run w) = run (run_of w)

-- an answer is what the plain reading has; `CommandLine` comes only where it has none; `NoMemory` is free
abbrev pub IsAnswered : Result Command WordsFault → Option Asked → Type 0
IsAnswered (Ok command) plain = plain ≡ Some (asked command)
IsAnswered (Err fault.CommandLine) plain = plain ≡ None
IsAnswered (Err fault.NoMemory) plain = Unit {0}
