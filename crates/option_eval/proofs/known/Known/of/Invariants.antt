-- The entries so far know nothing.
use Rattle.std.proofs.Common.{◌≡◌, ℕ, None, get_or}
use Rattle.option_eval.proofs.known.Known.of.Given as goal

abbrev pub invariant-loop : goal.invariant-loop
invariant-loop l = record {
  nothing : (left : ℕ) → get_or l.led.items left None ≡ None;
}
