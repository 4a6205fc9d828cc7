-- One byte more takes the value times ten, adds the digit and cuts to 32 bits, as one step of the fold does: `fold_more`.
use Rattle.std.proofs.Common.{◌≡◌, ℕ, ◌+◌, ◌-◌, ◌*◌, ◌%◌, ◌^◌, ◌<◌, ◌≤◌, List, ◌++◌, length, take, drop, fold, sym, ap, ◌∙◌, arith, take_all}
use Rattle.std.proofs.lemmas.List.Sums.{fold_more}
use Rattle.alert_fast.proofs.words.read_value.Goals as goal

pub loop-byte-preserved : goal.loop-byte-preserved
loop-byte-preserved c =
    let more = fold_more (λ value digit. (10 * value + (digit - 48)) % 2 ^ 32) 0 c.args.word.now c.loop-byte.byte-index 0 c.loop-byte-test.true in
    (omega (arith, more, c.saturating_sub.ensures, c.loop-byte.invariant.0), omega arith)
