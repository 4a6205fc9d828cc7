-- States are taken out and put back one by one with each place once: those left
-- and those done have all points, and are no more than any list of these.
use Rattle.std.proofs.Common.{◌^◌, ℕ, List, Contains, subst, sym}
use Rattle.option_eval.proofs.Extractions.Parting.{merged_first, merged_next, merged_all, listed_first, listed_next, listed_end}
use Rattle.option_eval.proofs.Extractions.Stating.{left_was}
use Rattle.option_eval.proofs.part.merged_states.Goals as goal

pub loop-state-init : goal.loop-state-init
loop-state-init c = record {
  merged = merged_first c.args.states c.new-done.result c.new-done.ensures.nowhere;
  left_was = λ values places found. found;
  few = λ listed each. listed_first listed c.args.states c.new-done.result.place_count c.new-done.ensures.uncounted each;
}

pub merged-requires : goal.merged-requires
merged-requires c =
    let old = c.loop-state.invariant in
    record { small = (c.requires.small c.in-Some.state.values c.in-Some.state.places.items (old.left_was c.in-Some.state.values c.in-Some.state.places.items c.in-Some.ensures.taken)).1 }

pub loop-state-preserved : goal.loop-state-preserved
loop-state-preserved c =
    let old = c.loop-state.invariant in
    let values = c.in-Some.state.values in
    let taken = c.in-Some.state.places.items in
    let places = c.in_ok-once.once.places.items in
    let more = rw c.in_ok-once.ensures.values at c.in_ok-put.ensures.put in
    record {
      merged =
          merged_next c.args.states c.loop-state.left c.take_first.new.self c.loop-state.done c.put.new.self values taken places
          old.left_was c.in-Some.ensures.taken c.in-Some.ensures.left c.in_ok-once.ensures.same more old.merged;
      left_was = λ v ps found.
          old.left_was v ps
          (left_was c.loop-state.left c.take_first.new.self values taken c.in-Some.ensures.taken c.in-Some.ensures.left v ps
          found).0;
      few = λ listed each.
          listed_next listed c.loop-state.left c.take_first.new.self values taken places (2 ^ 63) c.loop-state.done.place_count
          c.put.new.self.place_count c.in-Some.ensures.taken c.in-Some.ensures.left (λ p. (c.in_ok-once.ensures.same p).0)
          c.in_ok-once.ensures.rising c.in_ok-put.ensures.counted (old.few listed each);
    }

pub returns-clause-same : goal.returns-clause-same
returns-clause-same c = merged_all c.args.states c.loop-state.left c.loop-state.done c.in_default.ensures.empty c.loop-state.invariant.merged

pub returns-clause-few : goal.returns-clause-few
returns-clause-few c = λ listed each. listed_end listed c.loop-state.left c.loop-state.done.place_count (c.loop-state.invariant.few listed each)
