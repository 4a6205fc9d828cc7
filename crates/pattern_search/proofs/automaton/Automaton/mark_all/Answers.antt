-- Between two walks the sieve's skip loses nothing, since no pattern begins at a place that it passes (`covers-skipped`); so
-- each turn covers up to where its walk ended.
use Rattle.std.proofs.Common.{◌≡◌, ℕ, length, subst, arith}
use Rattle.pattern_search.specs.Finding.{Covers}
use Rattle.pattern_search.proofs.Finding.Covering.{covers-skipped}
use Rattle.pattern_search.proofs.automaton.Automaton.mark_all.Goals as goal

pub loop-done-preserved : goal.loop-done-preserved
loop-done-preserved c =
    let a = c.args in
    let l = c.loop-done in
    let from = c.next_start-from in (
      c.in_ok-done.ensures.within,
      record {
        on = λ covers. c.in_ok-done.ensures.covers.on (covers-skipped a.self.now c.in-Some.sieve a.bytes.now l.done from.result l.seen l.hits.items c.in-Some.is
            (λ k. omega (arith, c.type_inv.bytes k)) from.ensures.skips (l.invariant.1.on covers));
      },
    )

pub returns-then-bytes-from : goal.returns-then-bytes-from
returns-then-bytes-from c =
    let a = c.args in
    let l = c.loop-done in
    let from = c.next_start-from in
    let e : from.result ≡ length a.bytes.now = omega (arith, c.if-bytes-from.true, from.ensures.within) in
    let P : ℕ → Type 0 = λ to. Covers a.self.now a.bytes.now to l.seen l.hits.items in
    record {
      on = λ covers. subst P e (covers-skipped a.self.now c.in-Some.sieve a.bytes.now l.done from.result l.seen l.hits.items c.in-Some.is
          (λ k. omega (arith, c.type_inv.bytes k)) from.ensures.skips (l.invariant.1.on covers));
    }
