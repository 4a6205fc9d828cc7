-- To sort places and drop those that come again leaves the same set.
use Rattle.std.proofs.Common.{◌+◌, ℕ, List, length, arith, sym, subst, Contains}
use Rattle.std.proofs.lemmas.Result.{IfOk-weaker}
use Rattle.std.proofs.lemmas.List.Sorted.{Contains-permutation, IsPermutation-sym}
use Rattle.std.specs.List.Sorted.{IsPermutation}
use Rattle.option_eval.specs.Sets.{IsLedTo, LeadsFrom}
use Rattle.option_eval.proofs.Sets.Asking.{sorted_gathered}
use Rattle.option_eval.proofs.Walks.Staying.{jump_moves, next_of}
use Rattle.option_eval.proofs.next.places_after_jump.Goals as goal

pub rising-requires : goal.rising-requires
rising-requires g c =
    let is = c.as_slice-2.ensures in
    record {
      order = rw is c.sorted.ensures.order;
      small = λ q has.
          let in_sorted = subst (λ (xs : List ℕ). Contains xs q) is has in
          let in_led = Contains-permutation c.sorted.result.items c.in_ok-led.led.items q (IsPermutation-sym c.in_ok-led.led.items c.sorted.result.items c.sorted.ensures.same) in_sorted in
          let within = c.in_ok-led.ensures.inside q in_led in
          omega arith;
    }

pub returns-clause-after : goal.returns-clause-after
returns-clause-after g c = λ every.
    let at = c.args.at.now in
    let is = c.as_slice-2.ensures in
    let led = c.in_ok-led.led.items in
    let same = subst (λ (xs : List ℕ). IsPermutation led xs) (sym is) c.sorted.ensures.same in
    next_of g.P.Pattern.finds c.args.option.now c.args.made.now at every c.rising.result
    (λ means made. IfOk-weaker c.rising.result _ _
    (λ next deduped. sorted_gathered every (IsLedTo (LeadsFrom means at.payload.now at.values.now c.args.option.now) at.places.now)
    led c.as_slice-2.result.now next.items (c.in_ok-led.ensures.found means made) same deduped)
    c.rising.ensures.same)
    (c.rising.ensures.rising (length at.payload.now + 1) (λ q has.
    let in_sorted = subst (λ (xs : List ℕ). Contains xs q) is has in
    let in_led = Contains-permutation c.sorted.result.items led q (IsPermutation-sym led c.sorted.result.items c.sorted.ensures.same) in_sorted in
    omega (arith, c.in_ok-led.ensures.inside q in_led)))
    (λ free. jump_moves c.args.option.now c.requires.jumps)
