-- One window is still to be searched at each turn: the next place's window joins
-- it if they touch, else it is searched first, so no place is compared twice.
use Rattle.std.proofs.Common.{◌+◌, ◌-◌, ℕ, length, arith, ap, ◌∙◌, min, nat_lt, refl}
use Rattle.std.proofs.lemmas.Result.{IfOk-weaker}
use Rattle.option_eval.proofs.Sets.Rising.{rising_high}
use Rattle.option_eval.proofs.Sets.Sweeping.{swept_next, swept_all}
use Rattle.option_eval.proofs.sweep.sweep.Goals as goal

pub loop-rest-preserved : goal.loop-rest-preserved
loop-rest-preserved g c =
    let old = c.loop-rest.invariant in
    let needle = c.args.needle.now in
    let payload = c.args.payload.now in
    let fits = c.requires.fits in
    let swept =
    swept_next c.args.every needle.nocase payload needle.bytes.now c.args.reach.now c.args.places.now c.loop-rest.rest.now
    c.still_asked-rest.result.now (length payload + 1) c.loop-rest.from c.loop-rest.done
    (length payload - length needle.bytes.now + 1)
    c.low.result c.end.result c.min-low.result c.max-end.result c.loop-rest.next.items c.in_ok-next.next.items c.is_empty.result
    (nat_lt c.max-end.result (length payload - length needle.bytes.now + 1))
    c.in-len1-up.len_at_least old.rest_rising old.swept (λ i within. omega arith) c.low.ensures.low c.end.ensures.end
    c.max-end.ensures (c.min-low.ensures ∙ ap (λ (n : ℕ). min n c.max-end.result) c.max.ensures)
    c.in_ok-next.ensures.found c.is_empty.ensures refl c.still_asked-rest.ensures in
    let e = c.max-end.ensures in
    let a = c.max.ensures in
    let b = c.min-low.ensures in
    let within = old.within in
    let most = c.end.ensures.inside in
    let counted = old.counted in
    let ticks = c.tick_by.ensures in
    rw c.joined-from.ensures (record {
      swept = swept.0;
      rest_rising = swept.1;
      rising = c.in_ok-next.ensures.rising;
      within = omega arith;
      counted = omega arith;
    })

pub returns-clause-found : goal.returns-clause-found
returns-clause-found g c =
    let needle = c.args.needle.now in
    IfOk-weaker c.gather.result _ _
    (λ last added. swept_all c.args.every needle.nocase c.args.payload.now needle.bytes.now c.args.reach.now c.args.places.now
    c.loop-rest.rest.now c.loop-rest.from c.loop-rest.done c.loop-rest.next.items last.items c.in_default.len_below
    c.loop-rest.invariant.swept added)
    c.gather.ensures.found

pub returns-clause-rising : goal.returns-clause-rising
returns-clause-rising g c =
    let within = c.loop-rest.invariant.within in
    IfOk-weaker c.gather.result _ _
    (λ last risen. rising_high last.items 0 _ _ (omega (arith, c.requires.fits)) risen)
    c.gather.ensures.rising
