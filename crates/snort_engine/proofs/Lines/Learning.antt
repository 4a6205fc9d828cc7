-- Lanes that were given nothing.
use Rattle.std.proofs.Common.{◌≡◌, ℕ, zero, suc, ◌≤◌, [], Some, replicate, sym, subst, arith, slice_get}
use Rattle.std.proofs.lemmas.List.{length-replicate}
use Rattle.flow_lanes.specs.Flows.{Detection}
use Rattle.flow_lanes.specs.LanesAfter.{AreNew, LaneState, AreAfter, LanesState, IsAfter, new_lane}
use Rattle.flow_lanes.proofs.Jobs.IsAfter.{new_lane-holds}

-- what is at a place of a list of one thing
replicate_there : {X : Type 0} (count place : ℕ) (x y : X) → slice_get (replicate count x) place ≡ Some y → y ≡ x
replicate_there zero place x y is = absurd cc
replicate_there (suc count) zero x y is = cc
replicate_there (suc count) (suc place) x y is = replicate_there count place x y is

-- new lanes stand for no job
pub hold-new : (d : Detection) (count : ℕ) (lanes : LanesState) → 1 ≤ count → AreNew count d.making.flush d.making.inserts lanes → AreAfter d lanes []
hold-new d count lanes some new =
    subst (λ (l : LanesState). AreAfter d l []) (sym new) (record {
      some = let size = length-replicate count (new_lane d.making.flush d.making.inserts) in omega (arith, size);
      each = λ place lane is. subst (λ (l : LaneState). IsAfter d l []) (sym (replicate_there count place (new_lane d.making.flush d.making.inserts) lane is)) (new_lane-holds d);
    })
