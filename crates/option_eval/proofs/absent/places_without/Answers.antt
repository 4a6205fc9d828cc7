-- The places rise, so what was seen from one serves all later ones,
-- and each is kept just if no occurrence is within its reach.
use Rattle.std.proofs.Common.{◌+◌, ◌-◌, ◌<◌, ◌≤◌, ℕ, length, arith, ⊎_elim, Contains, nat_le, refl}
use Rattle.option_eval.specs.Absent.{IsReached}
use Rattle.option_eval.proofs.Sets.Asking.{kept_none, kept_next, rising_with, length_later, first_below, none_left}
use Rattle.option_eval.proofs.Sets.Looking.{serves_none, serves_next, tells, least_first}
use Rattle.option_eval.proofs.Sets.Rising.{rising_high, rising_length}
use Rattle.option_eval.proofs.absent.places_without.Goals as goal

pub overflow_add-asked : goal.overflow_add-asked
overflow_add-asked g c =
    let below = first_below c.loop-rest.rest.now c.loop-rest.asked (length c.args.at.now.payload.now + 1) c.in-len1-up.len_at_least c.loop-rest.invariant.rest_rising in
    omega arith

pub loop-rest-preserved : goal.loop-rest-preserved
loop-rest-preserved g c =
    let old = c.loop-rest.invariant in
    let rest = c.loop-rest.rest.now in
    let some = c.in-len1-up.len_at_least in
    let needle = c.args.needle.now in
    let payload = c.args.at.now.payload.now in
    let fits = c.requires.fits in
    let counted = old.counted in
    let ticked = c.tick.ensures in
    let bound = length payload - length needle.bytes.now + 1 in
    let inside : (i : ℕ) → i + length needle.bytes.now ≤ length payload → i < bound = λ i within. omega arith in
    let least = least_first rest c.loop-rest.asked (length payload + 1) some old.rest_rising in
    let holds =
    tells needle.nocase payload needle.bytes.now c.args.reach.now rest (length payload + 1) bound c.low-low.result
    c.end-end.result c.loop-rest.seen c.seen_in-seen.result some least inside c.low-low.ensures.low c.end-end.ensures.end
    old.serves c.seen_in-seen.ensures (nat_le c.seen_in-seen.result.last c.low-low.result) refl in
    let risen =
    rising_with rest c.loop-rest.next.items c.in_ok-next.next.items c.loop-rest.asked (length payload + 1)
    (nat_le c.seen_in-seen.result.last c.low-low.result) some
    old.rest_rising old.rising c.in_ok-next.ensures in
    record {
      kept =
          kept_next (λ p. ¬ IsReached needle.nocase payload needle.bytes.now c.args.reach.now p)
          c.args.at.now.places.now rest c.loop-rest.next.items c.in_ok-next.next.items
          (nat_le c.seen_in-seen.result.last c.low-low.result) some
          old.kept holds c.in_ok-next.ensures;
      serves =
          serves_next needle.nocase payload needle.bytes.now c.args.reach.now rest (length payload + 1) bound c.low-low.result
          c.end-end.result c.loop-rest.seen c.seen_in-seen.result some least inside c.low-low.ensures.low c.end-end.ensures.end
          old.serves c.seen_in-seen.ensures;
      rest_rising = risen.1;
      rising = risen.0;
      counted = omega (arith, length_later rest some);
    }

pub loop-rest-init : goal.loop-rest-init
loop-rest-init g c =
    let needle = c.args.needle.now in
    rw c.new-next.ensures.items (record {
      kept = kept_none (λ p. ¬ IsReached needle.nocase c.args.at.now.payload.now needle.bytes.now c.args.reach.now p) c.args.at.now.places.now;
      serves = serves_none needle.nocase c.args.at.now.payload.now needle.bytes.now c.args.reach.now c.args.at.now.places.now _ refl refl;
      rest_rising = c.args.at.now.rising;
      rising = omega arith;
      counted = omega arith;
    })

pub returns-clause-found : goal.returns-clause-found
returns-clause-found g c = λ q. (
  λ has. c.loop-rest.invariant.kept.sound q has,
  λ both.
      ⊎_elim (λ (done : Contains c.loop-rest.next.items q). done)
      (λ (left : Contains c.loop-rest.rest.now q). absurd (none_left c.loop-rest.rest.now q c.in_default.len_below left))
      (c.loop-rest.invariant.kept.complete q both.0 both.1),
)

pub returns-clause-rising : goal.returns-clause-rising
returns-clause-rising g c =
    let left = rising_length c.loop-rest.rest.now c.loop-rest.asked (length c.args.at.now.payload.now + 1) c.loop-rest.invariant.rest_rising in
    rising_high c.loop-rest.next.items 0 c.loop-rest.asked (length c.args.at.now.payload.now + 1) (omega arith) c.loop-rest.invariant.rising
