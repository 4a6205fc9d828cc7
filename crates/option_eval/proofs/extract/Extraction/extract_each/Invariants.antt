-- The places before the rest were asked.
use Rattle.std.proofs.Common.{◌≡◌, ◌∷◌, List, length}
use Rattle.rule_types.specs.declared.option.Opt.{Opt}
use Rattle.option_eval.specs.Extractions.{extract_option}
use Rattle.option_eval.specs.Kept.{names_read}
use Rattle.option_eval.specs.Places.{Means}
use Rattle.option_eval.specs.States.{AreWithin}
use Rattle.option_eval.proofs.Extractions.Extracting.{AskedFrom}
use Rattle.option_eval.proofs.extract.Extraction.extract_each.Given as goal

abbrev pub invariant-loop-rest : goal.invariant-loop-rest
invariant-loop-rest g l = record {
  asked : (means : Means) (later : List Opt) → l.self.read ≡ names_read later → AskedFrom means l.payload (extract_option l.self ∷ later) l.values l.places l.rest l.fn.states l.states;
  within : AreWithin (length l.payload) l.fn.states → AreWithin (length l.payload) l.states;
}

abbrev pub decreases-loop-rest : goal.decreases-loop-rest
decreases-loop-rest g l = length l.rest
