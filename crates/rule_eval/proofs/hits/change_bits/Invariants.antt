-- The loop of `change_bits` has the bits after the options so far.
use Rattle.std.proofs.Common.{◌≡◌, take, fold}
use Rattle.rule_eval.specs.Hits.{bits_after_option}
use Rattle.rule_eval.proofs.hits.change_bits.Given as goal

abbrev pub invariant-loop-opt : goal.invariant-loop-opt
invariant-loop-opt l = l.bits ≡ fold bits_after_option l.fn.bits (take l.opt-index l.opts)
