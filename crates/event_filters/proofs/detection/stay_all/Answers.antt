-- The run over the places so far and one over the next are one run;
-- each place takes at most one window and one place of the list.
use Rattle.std.proofs.Common.{ℕ, List, [], ◌∷◌, ◌++◌, get_or, take, arith, sym, ap, subst, ◌∙◌, rules}
use Rattle.std.proofs.lemmas.List.{take_more}
use Rattle.event_filters.specs.Runs.{Matched, Stays}
use Rattle.event_filters.proofs.Running.{Stays-none, Stays-more}
use Rattle.event_filters.proofs.detection.stay_all.Goals as goal

pub loop-place-init : goal.loop-place-init
loop-place-init c =
    let empty : Matched = record { matches = c.args.windows.now.entries; written = [] } in record {
      stays =
          subst (λ (written : List ℕ). Stays c.args.rules.now c.args.head.now empty []
          (record { matches = c.args.windows.now.entries; written = written }))
          (sym c.requires.empty)
          (Stays-none c.args.rules.now c.args.head.now empty);
      room = omega arith;
      few = grind (arith, c.requires.empty, c.args.staying.now.ok.0);
      space = omega arith;
    }

pub loop-place-preserved : goal.loop-place-preserved
loop-place-preserved c =
    let places = c.args.places.now in
    let i = c.loop-place.place-index in
    let rules_ = c.args.rules.now in
    let head = c.args.head.now in
    let old : Matched = record { matches = c.args.windows.now.entries; written = [] } in
    let mid : Matched = record { matches = c.loop-place.windows.entries; written = c.loop-place.staying.items } in
    let new : Matched = record { matches = c.stay.new.windows.entries; written = c.stay.new.staying.items } in
    let more = Stays-more rules_ head old mid new (take i places) (get_or places i 0) c.loop-place.invariant.stays c.stay.ensures.stays in record {
      stays = subst (λ (l : List ℕ). Stays rules_ head old l new) (sym (take_more places i 0 c.loop-place-test.true)) more;
      room = omega (arith, c.loop-place.invariant.room, c.stay.ensures.room);
      few = omega (arith, c.loop-place.invariant.few, c.stay.ensures.few);
      space = omega (arith, c.loop-place.invariant.space, c.stay.ensures.space);
    }
