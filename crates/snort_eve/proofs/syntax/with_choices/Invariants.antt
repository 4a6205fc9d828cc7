-- With the choices that are left, the command so far is the one with all of them.
use Rattle.std.proofs.Common.{◌≡◌, drop}
use Rattle.clap.specs.Words.{app_of}
use Rattle.snort_eve.specs.Command.{app_with}
use Rattle.snort_eve.proofs.syntax.with_choices.Given as goal

abbrev pub invariant-loop-choice : goal.invariant-loop-choice
invariant-loop-choice l = app_with (app_of l.command) (drop l.choice-index l.choices) ≡ app_with (app_of l.fn.bare) l.choices
