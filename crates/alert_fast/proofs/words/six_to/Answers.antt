-- No six digits have the byte that ends them (`free_six`), so that the word up to the first `end` is the microseconds, or
-- the text begins with none.
use Rattle.std.specs.Prelude.{decimal}
use Rattle.alert_fast.specs.Pieces.{digits}
use Rattle.alert_fast.specs.Words.{IsMicros}
use Rattle.alert_fast.proofs.ReadBack.Fronts.{ended_front, ended_nowhere, ended_no}
use Rattle.alert_fast.proofs.ReadBack.WholeWords.{free_six}
use Rattle.alert_fast.proofs.words.six_to.Goals as goal

pub returns-in_err-word : goal.returns-in_err-word
returns-in_err-word c = rw c.from_residual.ensures (ended_nowhere IsMicros (digits 6) c.args.end c.args.text.now c.in_err-word.ensures)

pub returns-in_err-value : goal.returns-in_err-value
returns-in_err-value c =
    rw c.from_residual-in_err-value.ensures
    (ended_no IsMicros (digits 6) c.args.end c.args.text.now c.in_ok-word.word.now c.in_ok-word.rest.now
    (free_six c.args.end c.requires) c.in_ok-word.ensures c.in_err-value.ensures)

pub returns : goal.returns
returns c =
    ended_front IsMicros (digits 6) c.args.end c.args.text.now c.in_ok-word.word.now c.in_ok-word.rest.now c.in_ok-value.value
    (free_six c.args.end c.requires) c.in_ok-word.ensures c.in_ok-value.ensures
