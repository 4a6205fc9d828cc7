-- Runs that count from a base.
use Rattle.std.proofs.Common.{All, ◌≡◌, ℕ, ◌+◌, ◌-◌, ◌≤◌, ◌⊎◌, inl, inr, List, [], ◌∷◌, ◌++◌, Option, None, length, map, take, drop, refl, ap, subst, ◌∙◌, sym, arith}
use Rattle.std.proofs.Math.Seq.{drop-append_seam, take-append_seam}
use Rattle.std.proofs.lemmas.List.{append-nil}
use Rattle.std.proofs.lemmas.List.Elements.{All-cons, All-nil}
use Rattle.overlap_core.specs.declared.segment.Run.{Run}
use Rattle.overlap_core.specs.Runs.{AppendsRuns, AreRuns, IsFirstRun}
use Rattle.stream5_reassembly.specs.Counted.{counted_from, IsFrom}

-- the first run counts from the base as the places do
first_counted : (byte : ℕ → Option ℕ) (base from to : ℕ) (run : Run) → IsFirstRun byte (base + from) (base + to) run → IsFirstRun (λ k. byte (base + k)) from to (counted_from base run)
first_counted byte base from to run is = record {
  begins = omega (arith, is.begins);
  nothing_before = λ place low high. is.nothing_before (base + place) (omega arith) (omega (arith, is.begins));
  some = is.some;
  holds = λ k below.
      let same : base + ((run.start - base) + k) ≡ run.start + k = omega (arith, is.begins) in
      ap byte same ∙ is.holds k below;
  within = omega (arith, is.begins, is.within);
  ends = elim is.ends as (λ _. ((run.start - base) + length run.bytes ≡ to) ⊎ (byte (base + ((run.start - base) + length run.bytes)) ≡ None)) [
    | inl reached ↦ inl (omega (arith, is.begins, reached))
    | inr none ↦
        let same : base + ((run.start - base) + length run.bytes) ≡ run.start + length run.bytes = omega (arith, is.begins) in
        inr (ap byte same ∙ none)
  ];
}

-- runs from a base on are the runs counted from the base
pub AreRuns-counted : (byte : ℕ → Option ℕ) (base from to : ℕ) (runs : List Run) → AreRuns byte (base + from) (base + to) runs → AreRuns (λ k. byte (base + k)) from to (map (counted_from base) runs)
AreRuns-counted byte base from to [] none = λ place low high. none (base + place) (omega arith) (omega arith)
AreRuns-counted byte base from to (run ∷ runs) (first, rest) =
    let begins = first.begins in
    let same : run.start + length run.bytes ≡ base + ((run.start - base) + length run.bytes) = omega (arith, begins) in (
      first_counted byte base from to run first,
      AreRuns-counted byte base ((run.start - base) + length run.bytes) to runs (subst (λ (n : ℕ). AreRuns byte n (base + to) runs) same rest),
    )

cut : (f : Run → Run) (old mid new runs : List Run) → mid ≡ old ++ runs → new ≡ take (length old) mid ++ map f (drop (length old) mid) → new ≡ old ++ map f runs
cut f old mid new runs is same = same ∙ ap (λ (xs : List Run). take (length old) xs ++ map f (drop (length old) xs)) is
    ∙ (λ i. take-append_seam old runs i ++ map f (drop-append_seam old runs i))

-- the runs after the first ones are counted from the base
pub AppendsRuns-counted : (byte : ℕ → Option ℕ) (base to : ℕ) (old mid new : List Run) → base ≤ to → AppendsRuns byte base to old mid
    → new ≡ take (length old) mid ++ map (counted_from base) (drop (length old) mid) → AppendsRuns (λ k. byte (base + k)) 0 (to - base) old new
AppendsRuns-counted byte base to old mid new order (runs, is, are) same =
    let low : base ≡ base + 0 = omega arith in
    let high : to ≡ base + (to - base) = omega arith in
    let moved : AreRuns byte (base + 0) (base + (to - base)) runs = subst (λ (n : ℕ). AreRuns byte n (base + (to - base)) runs) low (subst (λ (n : ℕ). AreRuns byte base n runs) high are) in
    (map (counted_from base) runs, cut (counted_from base) old mid new runs is same, AreRuns-counted byte base 0 (to - base) runs moved)

none_within : (byte : ℕ → Option ℕ) (high : ℕ) (runs : List Run) → high ≡ 0 → AreRuns byte 0 high runs → runs ≡ []
none_within byte high [] is none = refl
none_within byte high (run ∷ runs) is (first, rest) = absurd (omega (arith, first.within, first.some))

-- of no places there are no runs
pub AppendsRuns-none : (byte : ℕ → Option ℕ) (high : ℕ) (old new : List Run) → high ≡ 0 → AppendsRuns byte 0 high old new → new ≡ old
AppendsRuns-none byte high old new is (runs, same, are) = same ∙ ap (λ (xs : List Run). old ++ xs) (none_within byte high runs is are) ∙ append-nil old

-- no run begins before the place from which they are taken
all_from : (byte : ℕ → Option ℕ) (base low high : ℕ) (runs : List Run) → base ≤ low → AreRuns byte low high runs → All (IsFrom base) runs
all_from byte base low high [] order are = All-nil (IsFrom base)
all_from byte base low high (run ∷ runs) order (first, rest) =
    let begins = first.begins in
    All-cons (IsFrom base) run runs (omega arith) (all_from byte base (run.start + length run.bytes) high runs (omega arith) rest)

pub AppendsRuns-from : (byte : ℕ → Option ℕ) (low high known : ℕ) (old new : List Run) → known ≡ length old → AppendsRuns byte low high old new → All (IsFrom low) (drop known new)
AppendsRuns-from byte low high known old new is (runs, same, are) =
    let rest : drop known new ≡ runs = (λ i. drop (is i) (same i)) ∙ drop-append_seam old runs in
    subst (λ (xs : List Run). All (IsFrom low) xs) (sym rest) (all_from byte low low high runs (omega arith) are)
