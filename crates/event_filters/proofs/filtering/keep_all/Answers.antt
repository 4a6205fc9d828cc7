-- The run over the events so far and one over the next are one run,
-- and at most one place of each kind of room is used for each.
use Rattle.std.proofs.Common.{ℕ, List, [], ◌∷◌, ◌++◌, get_or, take, arith, sym, ap, subst, ◌∙◌}
use Rattle.std.proofs.lemmas.List.{take_more}
use Rattle.event_filters.specs.Runs.{Filtered, Keeps, lines_of}
use Rattle.event_filters.proofs.Running.{state_of, Keeps-none, Keeps-more}
use Rattle.event_filters.proofs.filtering.keep_all.Goals as goal

pub loop-event-init : goal.loop-event-init
loop-event-init c = record {
  keeps = Keeps-none (lines_of c.args.lines) c.args.head.now (state_of c.args.own.now.entries c.args.global.now.entries c.args.out.now.items);
  own = omega arith;
  global = omega arith;
  few = omega arith;
  space = omega arith;
}

pub loop-event-preserved : goal.loop-event-preserved
loop-event-preserved c =
    let events = c.args.events.now in
    let i = c.loop-event.event-index in
    let lines = lines_of c.args.lines in
    let head = c.args.head.now in
    let old = state_of c.args.own.now.entries c.args.global.now.entries c.args.out.now.items in
    let mid = state_of c.loop-event.own.entries c.loop-event.global.entries c.loop-event.out.items in
    let new = state_of c.keep.new.own.entries c.keep.new.global.entries c.keep.new.out.items in
    let more = Keeps-more lines head old mid new (take i events) (get_or events i 0) c.loop-event.invariant.keeps c.keep.ensures.keeps in record {
      keeps = subst (λ (l : List ℕ). Keeps lines head old l new) (sym (take_more events i 0 c.loop-event-test.true)) more;
      own = omega (arith, c.loop-event.invariant.own, c.keep.ensures.own);
      global = omega (arith, c.loop-event.invariant.global, c.keep.ensures.global);
      few = omega (arith, c.loop-event.invariant.few, c.keep.ensures.few);
      space = omega (arith, c.loop-event.invariant.space, c.keep.ensures.space);
    }
