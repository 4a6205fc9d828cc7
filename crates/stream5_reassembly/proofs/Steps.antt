-- What a direction keeps over its steps.
use Rattle.std.proofs.Common.{◌≡◌, inl, inr, length, map, take, drop, get_or, ℕ, ◌+◌, ◌-◌, ◌%◌, ◌^◌, ◌<◌, ◌≤◌, true, false, List}
use Rattle.std.proofs.Common.{[], ◌++◌, max, nat_eq, Result, Ok, Err, OnOk, OnErr, refl, ap, sym, subst, ◌∙◌, arith}
use Rattle.std.proofs.lemmas.Bool.{cases_lt}
use Rattle.std.proofs.lemmas.Bool.Decides.{nat_tests}
use Rattle.edge_io.specs.declared.policy.Preference.{Preference}
use Rattle.overlap_core.specs.Segments.{Segment}
use Rattle.overlap_core.specs.Overlap.{chosen_byte, covered_end, end_of}
use Rattle.overlap_core.specs.declared.segment.Run.{Run}
use Rattle.overlap_core.specs.Runs.{AppendsRuns}
use Rattle.overlap_core.proofs.Segments.Ends.{covered_end-is_greatest, covered_end-none, covered_end-snoc}
use Rattle.stream5_reassembly.specs.declared.limits.Added.{Added}
use Rattle.stream5_reassembly.specs.declared.limits.Added.TheVariants.{Queued}
use Rattle.stream5_reassembly.specs.declared.limits.Limits.{Limits}
use Rattle.stream5_reassembly.specs.Counted.{counted_from}
use Rattle.stream5_reassembly.specs.Inside.{IsKept}
use Rattle.stream5_reassembly.proofs.Shifted.{AppendsRuns-counted, AppendsRuns-none}
use Rattle.stream5_reassembly.specs.Segments.{AreLimits, DirectionState, first_place, flushed_bytes, flushed_to, Flushes, Stays, idle, fate_at, started_at, top, with_segment}

-- a direction that is not started
pub idle-kept : (limits : Limits) (preference : Preference) → AreLimits limits → IsKept (idle limits preference)
idle-kept limits preference are =
    let none : covered_end first_place [] ≡ first_place = covered_end-none first_place in
    record {
      limits = are;
      within = record { bytes = omega (arith, none); segs = omega (arith, are.segs_least) };
      from_first = omega arith;
      base = omega arith;
      held = λ some. absurd (omega arith);
      nothing = λ _. refl;
    }

-- a direction that is started is kept sound
pub started_at-kept : (direction : DirectionState) (seq : ℕ) → IsKept direction → seq < 2 ^ 32 → IsKept (started_at direction seq)
started_at-kept direction seq kept small =
    let none : covered_end first_place [] ≡ first_place = covered_end-none first_place in
    record {
      limits = kept.limits;
      within = record { bytes = omega (arith, none); segs = omega (arith, kept.limits.segs_least) };
      from_first = omega arith;
      base = small;
      held = λ some. absurd (omega arith);
      nothing = λ not. cc;
    }

-- a segment that is queued
pub record IsRoomFor (direction : DirectionState) (end : ℕ) : Type 0 where
  pub ahead : direction.place < end
  pub within : end ≤ direction.place + direction.limits.bytes
  pub slot : nat_eq direction.count direction.limits.segs ≡ false

pub queued-room : (direction : DirectionState) (end : ℕ) → fate_at direction end ≡ Queued → IsRoomFor direction end
queued-room direction end is = record {
  ahead = grind (arith, nat_tests);
  within = grind (arith, nat_tests);
  slot = grind (arith, nat_tests);
}

pub with_segment-kept : (direction : DirectionState) (segment : Segment)
    → IsKept direction
    → direction.started ≡ true
    → fate_at direction (end_of segment) ≡ Queued
    → IsKept (with_segment direction segment)
with_segment-kept direction segment kept started is =
    let room : IsRoomFor direction (end_of segment) = queued-room direction (end_of segment) is in
    let more : top (with_segment direction segment) ≡ max (top direction) (end_of segment) = covered_end-snoc direction.place direction.segments segment in
    record {
      limits = kept.limits;
      within = record {
        bytes = omega (arith, more, kept.within.bytes, room.within);
        segs = grind (arith, nat_tests, kept.within.segs, room.slot);
      };
      from_first = kept.from_first;
      base = kept.base;
      held = λ _. omega (arith, more, room.ahead);
      nothing = λ not. cc;
    }

-- a direction stays sound with the bytes that the call adds
pub queued-kept : (direction shown : DirectionState) (start : ℕ) (bytes : List ℕ) (fate : Added) → IsKept direction → direction ≡ shown → shown.started ≡ true
    → fate ≡ fate_at shown (start + length bytes) → fate ≡ Queued → IsKept (with_segment direction (record { start = start; bytes = bytes }))
queued-kept direction shown start bytes fate kept same started is queued =
    with_segment-kept direction (record { start = start; bytes = bytes }) kept (ap (λ (d : DirectionState). d.started) same ∙ started)
    (ap (λ (d : DirectionState). fate_at d (start + length bytes)) same ∙ sym is ∙ queued)

-- a later base has no greater top, where it is not beyond top itself
top_of_later : (place to : ℕ) (segments : List Segment) → to ≤ covered_end place segments → covered_end to segments ≤ covered_end place segments
top_of_later place to segments most =
    let old = covered_end-is_greatest place segments in
    let new = covered_end-is_greatest to segments in
    elim new.reached as (λ _. covered_end to segments ≤ covered_end place segments) [
      | inl is ↦ omega (arith, is)
      | inr found ↦
          let within = old.from_ends found.0 found.1 found.2 in
          let same : end_of (get_or segments found.0 found.1) ≡ end_of found.1 = ap end_of found.3 in
          omega (arith, within, same, found.4)
    ]

-- where nothing is held the place to flush to is the base
idle-place : (direction : DirectionState) → direction ≡ idle direction.limits direction.preference → direction.place ≡ first_place
idle-place direction is = ap (λ (d : DirectionState). d.place) is

pub idle-top : (direction : DirectionState) → direction ≡ idle direction.limits direction.preference → top direction ≡ direction.place
idle-top direction is = ap (λ (d : DirectionState). top d) is ∙ covered_end-none first_place ∙ sym (idle-place direction is)

idle-flushed : (direction : DirectionState) (to : ℕ) → direction ≡ idle direction.limits direction.preference → to ≡ first_place → flushed_to direction to ≡ idle direction.limits direction.preference
idle-flushed direction to is at = λ i. flushed_to (is i) (at i)

-- a flush up to a place that is not beyond top
pub flushed_to-kept : (direction : DirectionState) (to : ℕ) → IsKept direction → direction.place ≤ to → to ≤ top direction → IsKept (flushed_to direction to)
flushed_to-kept direction to kept from most =
    let later : top (flushed_to direction to) ≤ top direction = top_of_later direction.place to direction.segments most in
    record {
      limits = kept.limits;
      within = record { bytes = omega (arith, later, kept.within.bytes); segs = omega arith };
      from_first = omega (arith, kept.from_first);
      base = omega arith;
      held = λ some. absurd (omega arith);
      nothing = λ not.
          let is = kept.nothing not in
          idle-flushed direction to is (omega (arith, idle-top direction is, idle-place direction is));
    }

-- a flush of nothing changes nothing
flushed_to-top : (direction : DirectionState) → IsKept direction → top direction ≡ direction.place → flushed_to direction (top direction) ≡ direction
flushed_to-top direction kept is =
    let base : (direction.base + (top direction - direction.place)) % 2 ^ 32 ≡ direction.base = omega (arith, kept.base) in
    let count : 0 ≡ direction.count = elim (cases_lt 0 direction.count) as (λ _. 0 ≡ direction.count) [ inl some ↦ absurd (omega (arith, kept.held some, is)) | inr none ↦ omega (arith, none) ] in
    λ i. record direction { base = base i; place = is i; count = count i }

-- what a flush does, from what it did to the queue and to the runs
pub Flushes-from : (old : DirectionState) (to : ℕ) (preference : Preference) (before mid after : List Run) → preference ≡ old.preference → old.place ≤ to
    → AppendsRuns (chosen_byte preference old.segments) old.place to before mid
    → after ≡ take (length before) mid ++ map (counted_from old.place) (drop (length before) mid)
    → Flushes old (flushed_to old to) to before after
Flushes-from old to preference before mid after same order appends is = record {
  runs = subst (λ (p : Preference). AppendsRuns (λ k. chosen_byte p old.segments (old.place + k)) 0 (to - old.place) before after) same
      (AppendsRuns-counted (chosen_byte preference old.segments) old.place to before mid after order appends is);
  state = refl;
}

-- where top is the base, a flush leaves all as it was
pub Flushes-nothing : (old new : DirectionState) (before after : List Run) → IsKept old → top old ≡ old.place → Flushes old new (top old) before after → Stays old new before after
Flushes-nothing old new before after kept is flushes = record {
  runs = AppendsRuns-none (flushed_bytes old) (top old - old.place) before after (omega arith) flushes.runs;
  state = flushes.state ∙ flushed_to-top old kept is;
}

-- where top is the base, the call that flushes leaves all as it was, whatever it answers
pub Stays-nothing : {E : Type 0} (old new : DirectionState) (to : ℕ) (before after : List Run) (result : Result (Unit {0}) E) → IsKept old → top old ≡ old.place → to ≡ top old
    → OnOk result (Flushes old new to before after) → OnErr result (Stays old new before after) → Stays old new before after
Stays-nothing old new to before after (Ok x) kept is at ok err = Flushes-nothing old new before after kept is (subst (λ (n : ℕ). Flushes old new n before after) at ok)
Stays-nothing old new to before after (Err e) kept is at ok err = err
