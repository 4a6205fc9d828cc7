-- No decimal text has a byte that isn't a digit (`free_number`), so that the word up to the first `end` is the number, or
-- the text begins with none.
use Rattle.std.specs.Prelude.{decimal}
use Rattle.alert_fast.specs.Pieces.{digits}
use Rattle.alert_fast.specs.Words.{IsNumber}
use Rattle.alert_fast.proofs.ReadBack.Fronts.{ended_front, ended_nowhere, ended_no}
use Rattle.alert_fast.proofs.ReadBack.WholeWords.{free_number}
use Rattle.alert_fast.proofs.words.number_to.Goals as goal

pub returns-in_err-word : goal.returns-in_err-word
returns-in_err-word c = rw c.from_residual.ensures (ended_nowhere IsNumber decimal c.args.end c.args.text.now c.in_err-word.ensures)

pub returns-in_err-value : goal.returns-in_err-value
returns-in_err-value c =
    rw c.from_residual-in_err-value.ensures
    (ended_no IsNumber decimal c.args.end c.args.text.now c.in_ok-word.word.now c.in_ok-word.rest.now
    (free_number c.args.end c.requires) c.in_ok-word.ensures c.in_err-value.ensures)

pub returns : goal.returns
returns c =
    ended_front IsNumber decimal c.args.end c.args.text.now c.in_ok-word.word.now c.in_ok-word.rest.now c.in_ok-value.value
    (free_number c.args.end c.requires) c.in_ok-word.ensures c.in_ok-value.ensures
