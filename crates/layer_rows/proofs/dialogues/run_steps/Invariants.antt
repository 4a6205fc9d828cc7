-- The lane of `run_steps` is after a dialogue of the steps so far.
use Rattle.layer_rows.specs.Dialogue.{IsDialogue}
use Rattle.layer_rows.proofs.dialogues.run_steps.Given as goal

-- the dialogue so far
abbrev pub invariant-loop-step : goal.invariant-loop-step
invariant-loop-step l = IsDialogue l.manner.preference l.lane l.done
