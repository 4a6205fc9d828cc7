-- Each record takes the walk further by its bytes (`walk-step`), at least 8 of them, so that the loop ends; what is left
-- then has no record at its front.
use Rattle.std.proofs.Common.{[], ◌-◌, ◌∙◌, length, take, drop, subst, append-nil, arith}
use Rattle.std.proofs.lemmas.List.{take_rest}
use Rattle.unified2_out.specs.Fronts.{HasNoRecord}
use Rattle.unified2_out.proofs.Walks.{walk-start, walk-step, front-size}
use Rattle.snort_eve.specs.declared.records.FrontRecord.{FrontRecord}
use Rattle.snort_eve.specs.Streams.{IsForeign, IsFront}
use Rattle.snort_eve.proofs.records.take_records.Goals as goal

pub places-init : goal.places-init
places-init c = walk-start c.args.bytes.now c.args.entries.now.items

pub places-preserved : goal.places-preserved
places-preserved c =
    walk-step c.args.bytes.now _ _ _ c.places.place c.in-Record.size c.places.invariant
    (subst (λ (f : FrontRecord). IsFront (take (length c.args.bytes.now - c.places.place) (drop c.places.place c.args.bytes.now))
    c.places.entries.items c.push_front.new.entries.items f) c.in-Record.is c.in_ok-size.ensures)

pub places-smaller : goal.places-smaller
places-smaller c =
    let adds =
    subst (λ (f : FrontRecord). IsFront (take (length c.args.bytes.now - c.places.place) (drop c.places.place c.args.bytes.now))
    c.places.entries.items c.push_front.new.entries.items f) c.in-Record.is c.in_ok-size.ensures in
    let walk = walk-step c.args.bytes.now _ _ _ c.places.place c.in-Record.size c.places.invariant adds in
    omega (arith, walk.reached.within, front-size _ _ _ _ adds)

pub returns-in-Waits-clause-taken : goal.returns-in-Waits-clause-taken
returns-in-Waits-clause-taken c =
    let here =
    subst (λ (f : FrontRecord). IsFront (take (length c.args.bytes.now - c.places.place) (drop c.places.place c.args.bytes.now))
    c.places.entries.items c.push_front.new.entries.items f) c.in-Waits.is c.in_ok-size.ensures in
    record {
      reached = c.places.invariant.reached;
      added = here.1 ∙ c.places.invariant.added;
      none = subst HasNoRecord (take_rest c.args.bytes.now c.places.place) here.0;
    }

pub returns-in-Foreign-clause-taken : goal.returns-in-Foreign-clause-taken
returns-in-Foreign-clause-taken c =
    let here =
    subst (λ (f : FrontRecord). IsFront (take (length c.args.bytes.now - c.places.place) (drop c.places.place c.args.bytes.now))
    c.places.entries.items c.push_front.new.entries.items f) c.in-Foreign.is c.in_ok-size.ensures in
    let rest = drop c.places.place c.args.bytes.now in
    record {
      reached = c.places.invariant.reached;
      added = here.1 ∙ c.places.invariant.added;
      none = subst HasNoRecord (append-nil rest) ((subst IsForeign (take_rest c.args.bytes.now c.places.place) here.0).none []);
    }

pub returns-in-Foreign-clause-foreign : goal.returns-in-Foreign-clause-foreign
returns-in-Foreign-clause-foreign c told =
    let here =
    subst (λ (f : FrontRecord). IsFront (take (length c.args.bytes.now - c.places.place) (drop c.places.place c.args.bytes.now))
    c.places.entries.items c.push_front.new.entries.items f) c.in-Foreign.is c.in_ok-size.ensures in
    subst IsForeign (take_rest c.args.bytes.now c.places.place) here.0
