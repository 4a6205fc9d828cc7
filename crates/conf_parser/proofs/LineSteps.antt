-- From the meaning of a line to how the reading goes on after it.
use Rattle.std.proofs.Common.{◌≡◌, ℕ, List, length, Result, Ok, Err, ap, ◌∙◌}
use Rattle.std.specs.Prelude.{⊤}
use Rattle.net_lists.specs.declared.stop.Stop.{Stop}
use Rattle.net_lists.specs.declared.stop.Stop.TheVariants.{Wrong, NoMemory}
use Rattle.net_lists.specs.Stops.{Gives}
use Rattle.conf_parser.specs.declared.given.Onward.{Onward}
use Rattle.conf_parser.specs.declared.line.ConfKind.{ConfKind}
use Rattle.net_lists.specs.declared.lines.NumberedLine.{NumberedLine}
use Rattle.conf_parser.specs.declared.reading.AfterLine.{AfterLine}
use Rattle.conf_parser.specs.declared.reading.ReadSoFar.{ReadSoFar}
use Rattle.conf_parser.specs.declared.reading.Source.{Source}
use Rattle.conf_parser.specs.Spots.{Spot}
use Rattle.conf_parser.specs.Reading.{Including, Ended, given_read, meaning_read, line_read, file_count}
use Rattle.conf_parser.specs.ConfLine.{conf_line}
use Rattle.conf_parser.specs.Steps.{next_read, line_stop, StepsTo}

-- where a line of this file is
abbrev pub spot_of : Source → ReadSoFar → Spot
spot_of source read = record { file = source.name; depth = source.depth; files = file_count read }

-- a line that is accepted
pub step-ok : (source : Source) (line : NumberedLine) (read : ReadSoFar) (after : Onward) (next : AfterLine) → conf_line (spot_of source read) read.settings line.text ≡ Ok after
    → ((including : Including) → given_read including source line after.settings read.output after.given ≡ next_read including source line next)
    → StepsTo source line read (Ok next)
unfolding line_read
step-ok source line read after next meant goes = λ including. ap (meaning_read including source line read.output) meant ∙ goes including

-- a line that is refused
abbrev pub refusal : Stop ConfKind → Result Onward (Stop ConfKind)
refusal stop = Err stop

pub step-err : (source : Source) (line : NumberedLine) (read : ReadSoFar) (stop : Stop ConfKind) → Gives (refusal stop) (conf_line (spot_of source read) read.settings line.text)
    → StepsTo source line read (Err (line_stop source line read.output stop))
unfolding line_read
step-err source line read (Wrong kind) meant = λ including. ap (meaning_read including source line read.output) meant
step-err source line read NoMemory meant = tt
