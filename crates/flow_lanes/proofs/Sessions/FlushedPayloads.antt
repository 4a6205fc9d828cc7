-- The payloads of a flush are the bytes of the runs that a direction gives, cut.
use Rattle.std.proofs.Common.{◌≡◌, ℕ, suc, zero, ◌+◌, ◌-◌, ◌<◌, ◌≤◌, true, false, List, [], ◌∷◌, length, map, Option, Some, None, refl, sym, ap, ◌∙◌, ◌⊎◌, inl, inr, arith}
use Rattle.std.specs.List.{range_with_len, flat_map}
use Rattle.overlap_core.specs.declared.segment.Run.{Run}
use Rattle.overlap_core.specs.Runs.{AreBytes, AreRuns, IsFirstRun}
use Rattle.stream5_reassembly.specs.Segments.{DirectionState, flushed_bytes}
use Rattle.flow_lanes.specs.Streams.{begins_run, flushed_payloads, in_front, item_size, parts_of, runs_of}

module _ (byte : ℕ → Option ℕ) where
  -- what this many places from one on have
  abbrev places : ℕ → ℕ → List (Option ℕ)
  places low count = map byte (range_with_len low count)

  -- the first place, and those after it
  runs_of-step : (low count : ℕ) → runs_of (places low (suc count)) ≡ in_front (byte low) (begins_run (places (low + 1) count)) (runs_of (places (low + 1) count))
  unfolding runs_of
  runs_of-step low count = refl

  runs_of-none : (low : ℕ) → runs_of (places low 0) ≡ []
  unfolding runs_of
  runs_of-none low = refl

  begins_run-some : (low count b : ℕ) → byte low ≡ Some b → begins_run (places low (suc count)) ≡ true
  begins_run-some low count b is = ap (λ p. begins_run (p ∷ places (low + 1) count)) is

  begins_run-none : (low count : ℕ) → (count ≡ 0) ⊎ (byte low ≡ None) → begins_run (places low count) ≡ false
  begins_run-none low zero ends = refl
  begins_run-none low (suc count) (inl is) = absurd (omega arith)
  begins_run-none low (suc count) (inr is) = ap (λ p. begins_run (p ∷ places (low + 1) count)) is

  -- places without a byte are in no run
  skipped : (low gap count : ℕ) → ((place : ℕ) → low ≤ place → place < low + gap → byte place ≡ None) → runs_of (places low (gap + count)) ≡ runs_of (places (low + gap) count)
  skipped low zero count none =
      let same : 0 + count ≡ count = omega arith in
      let here : low ≡ low + 0 = omega arith in
      ap (λ c. runs_of (places low c)) same ∙ ap (λ l. runs_of (places l count)) here
  skipped low (suc gap) count none =
      let more : suc gap + count ≡ suc (gap + count) = omega arith in
      let next : low + 1 + gap ≡ low + suc gap = omega arith in
      let first : byte low ≡ None = none low (omega arith) (omega arith) in
      ap (λ c. runs_of (places low c)) more ∙ runs_of-step low (gap + count)
      ∙ ap (λ p. in_front p (begins_run (places (low + 1) (gap + count))) (runs_of (places (low + 1) (gap + count)))) first
      ∙ skipped (low + 1) gap count (λ place from below. none place (omega arith) (omega arith))
      ∙ ap (λ l. runs_of (places l count)) next

  -- bytes, and then the end or a place without a byte, are a run
  taken : (start : ℕ) (bytes : List ℕ) (count : ℕ) → AreBytes byte start bytes → 0 < length bytes → (count ≡ 0) ⊎ (byte (start + length bytes) ≡ None)
      → runs_of (places start (length bytes + count)) ≡ bytes ∷ runs_of (places (start + length bytes) count)
  taken start [] count holds some ends = absurd (omega arith)
  taken start (b ∷ []) count holds some ends =
      let more : length (b ∷ []) + count ≡ suc count = omega arith in
      let here : start + 0 ≡ start = omega arith in
      let first : byte start ≡ Some b = ap byte (sym here) ∙ holds 0 some in
      ap (λ c. runs_of (places start c)) more ∙ runs_of-step start count
      ∙ ap (λ p. in_front p (begins_run (places (start + 1) count)) (runs_of (places (start + 1) count))) first
      ∙ ap (λ j. in_front (Some b) j (runs_of (places (start + 1) count))) (begins_run-none (start + 1) count ends)
  taken start (b ∷ c ∷ bytes) count holds some ends =
      let rest : List ℕ = c ∷ bytes in
      let more : length (b ∷ rest) + count ≡ suc (length rest + count) = omega arith in
      let here : start + 0 ≡ start = omega arith in
      let first : byte start ≡ Some b = ap byte (sym here) ∙ holds 0 (omega arith) in
      let second : byte (start + 1) ≡ Some c = holds 1 (omega arith) in
      let after : start + length (b ∷ rest) ≡ start + 1 + length rest = omega arith in
      let longer : suc (length bytes + count) ≡ length rest + count = omega arith in
      let joins : begins_run (places (start + 1) (length rest + count)) ≡ true =
      ap (λ n. begins_run (places (start + 1) n)) (sym longer) ∙ begins_run-some (start + 1) (length bytes + count) c second in
      let next : (k : ℕ) → start + 1 + k ≡ start + suc k = λ k. omega arith in
      let later =
      taken (start + 1) (c ∷ bytes) count (λ k lt. ap byte (next k) ∙ holds (suc k) (omega arith))
      (omega arith)
      (ends_at (start + length (b ∷ rest)) (start + 1 + length rest) after ends) in
      ap (λ n. runs_of (places start n)) more ∙ runs_of-step start (length rest + count)
      ∙ ap (λ p. in_front p (begins_run (places (start + 1) (length rest + count)))
      (runs_of (places (start + 1) (length rest + count)))) first
      ∙ ap (λ j. in_front (Some b) j (runs_of (places (start + 1) (length rest + count)))) joins
      ∙ ap (λ r. in_front (Some b) true r) later
      ∙ ap (λ l. (b ∷ rest) ∷ runs_of (places l count)) (sym after)
    where
      ends_at : (l m : ℕ) → l ≡ m → (count ≡ 0) ⊎ (byte l ≡ None) → (count ≡ 0) ⊎ (byte m ≡ None)
      ends_at l m same (inl is) = inl is
      ends_at l m same (inr is) = inr (ap byte (sym same) ∙ is)

  -- the maximal runs of the places from one on and below another have the bytes of `runs_of`
  pub runs_of-runs : (low high count : ℕ) (runs : List Run) → high ≡ low + count → AreRuns byte low high runs → map (λ (run : Run). run.bytes) runs ≡ runs_of (places low count)
  runs_of-runs low high count [] is none =
      let same : count + 0 ≡ count = omega arith in
      sym (ap (λ c. runs_of (places low c)) (sym same) ∙ skipped low count 0 (λ place from below. none place from (omega arith)) ∙ runs_of-none (low + count))
  runs_of-runs low high count (run ∷ runs) is are =
      let first : IsFirstRun byte low high run = are.0 in
      let begins = first.begins in
      let within = first.within in
      let gap : ℕ = run.start - low in
      let left : ℕ = high - (run.start + length run.bytes) in
      let parts : gap + (length run.bytes + left) ≡ count = omega arith in
      let start : low + gap ≡ run.start = omega arith in
      let end : high ≡ run.start + length run.bytes + left = omega arith in
      let later = runs_of-runs (run.start + length run.bytes) high left runs end are.1 in
      sym (
      ap (λ c. runs_of (places low c)) (sym parts)
      ∙ skipped low gap (length run.bytes + left) (λ place from below. first.nothing_before place from (omega arith))
      ∙ ap (λ l. runs_of (places l (length run.bytes + left))) start
      ∙ taken run.start run.bytes left first.holds first.some (at_end left first.ends (omega arith))
      ∙ ap (λ r. run.bytes ∷ r) (sym later)
      )
    where
      at_end : (left : ℕ)
          → (run.start + length run.bytes ≡ high) ⊎ (byte (run.start + length run.bytes) ≡ None)
          → (run.start + length run.bytes ≡ high → left ≡ 0)
          → (left ≡ 0) ⊎ (byte (run.start + length run.bytes) ≡ None)
      at_end left (inl is) then = inl (then is)
      at_end left (inr is) then = inr is

-- the payloads of a flush are those of the runs that a direction appends, each cut
pub flushed_payloads-runs : (direction : DirectionState) (to : ℕ) (runs : List Run) → AreRuns (flushed_bytes direction) 0 (to - direction.place) runs
    → flushed_payloads direction to ≡ flat_map (parts_of item_size) (map (λ (run : Run). run.bytes) runs)
unfolding flushed_payloads
flushed_payloads-runs direction to runs are =
    let whole : to - direction.place ≡ 0 + (to - direction.place) = omega arith in
    sym (ap (flat_map (parts_of item_size)) (runs_of-runs (flushed_bytes direction) 0 (to - direction.place) (to - direction.place) runs whole are))
