-- The maximal runs are one list only.
use Rattle.std.proofs.Common.{◌≡◌, ℕ, ◌+◌, ◌<◌, inl, inr, List, [], ◌∷◌, Option, Some, None, length, get_or, refl, ap, sym, subst, ◌∙◌, arith}
use Rattle.std.proofs.lemmas.Bool.{cases_lt}
use Rattle.std.proofs.lemmas.Grind.{same_number_lists}
use Rattle.overlap_core.specs.declared.segment.Run.{Run}
use Rattle.overlap_core.specs.Runs.{AreRuns, IsFirstRun, NoByte}

-- the first place of a run has a byte
first_byte : (byte : ℕ → Option ℕ) (low high : ℕ) (run : Run) → IsFirstRun byte low high run → byte run.start ≡ Some (get_or run.bytes 0 0)
first_byte byte low high run is = let same : run.start + 0 ≡ run.start = omega arith in ap byte (sym same) ∙ is.holds 0 is.some

-- no run begins where no place has a byte
no_run : (byte : ℕ → Option ℕ) (low high : ℕ) (run : Run) → IsFirstRun byte low high run → NoByte byte low high → ⊥
no_run byte low high run is nothing =
    let here : run.start < high = omega (arith, is.within, is.some) in
    let none = nothing run.start is.begins here in
    let some = first_byte byte low high run is in
    cc

-- two first runs: the one doesn't begin before the other
not_before : (byte : ℕ → Option ℕ) (low high : ℕ) (run other : Run) → IsFirstRun byte low high run → IsFirstRun byte low high other → run.start < other.start → ⊥
not_before byte low high run other is that before =
    let none = that.nothing_before run.start is.begins before in
    let some = first_byte byte low high run is in
    cc

-- nor is it shorter
not_shorter : (byte : ℕ → Option ℕ) (low high : ℕ) (run other : Run)
    → IsFirstRun byte low high run
    → IsFirstRun byte low high other
    → run.start ≡ other.start
    → length run.bytes < length other.bytes
    → ⊥
not_shorter byte low high run other is that same shorter =
    elim is.ends as (λ _. ⊥) [
      | inl end ↦ omega (arith, end, that.within, same, shorter)
      | inr none ↦
          let some = that.holds (length run.bytes) shorter in
          let place : run.start + length run.bytes ≡ other.start + length run.bytes = ap (λ n. n + length run.bytes) same in
          let clash : None ≡ Some (get_or other.bytes (length run.bytes) 0) = sym none ∙ ap byte place ∙ some in
          cc
    ]

-- two first runs begin at one place
one_start : (byte : ℕ → Option ℕ) (low high : ℕ) (run other : Run) → IsFirstRun byte low high run → IsFirstRun byte low high other → run.start ≡ other.start
one_start byte low high run other is that =
    elim (cases_lt run.start other.start) as (λ _. run.start ≡ other.start) [
      | inl before ↦ absurd (not_before byte low high run other is that before)
      | inr after ↦ elim (cases_lt other.start run.start) as (λ _. run.start ≡ other.start) [
        | inl before ↦ absurd (not_before byte low high other run that is before)
        | inr ahead ↦ omega arith
      ]
    ]

-- two first runs that begin at one place are equally long
one_length : (byte : ℕ → Option ℕ) (low high : ℕ) (run other : Run) → IsFirstRun byte low high run → IsFirstRun byte low high other → run.start ≡ other.start → length run.bytes ≡ length other.bytes
one_length byte low high run other is that same =
    elim (cases_lt (length run.bytes) (length other.bytes)) as (λ _. length run.bytes ≡ length other.bytes) [
      | inl shorter ↦ absurd (not_shorter byte low high run other is that same shorter)
      | inr longer ↦ elim (cases_lt (length other.bytes) (length run.bytes)) as (λ _. length run.bytes ≡ length other.bytes) [
        | inl shorter ↦ absurd (not_shorter byte low high other run that is (sym same) shorter)
        | inr no_longer ↦ omega arith
      ]
    ]

-- two first runs that begin at one place hold the same bytes
one_byte : (byte : ℕ → Option ℕ) (low high : ℕ) (run other : Run)
    → IsFirstRun byte low high run
    → IsFirstRun byte low high other
    → run.start ≡ other.start
    → (k : ℕ)
    → k < length run.bytes
    → k < length other.bytes
    → get_or run.bytes k 0 ≡ get_or other.bytes k 0
one_byte byte low high run other is that same k within beyond =
    let place : run.start + k ≡ other.start + k = ap (λ n. n + k) same in
    let both : Some (get_or run.bytes k 0) ≡ Some (get_or other.bytes k 0) = sym (is.holds k within) ∙ ap byte place ∙ that.holds k beyond in
    cc

make_run : ℕ → List ℕ → Run
make_run start bytes = record { start = start; bytes = bytes }

one_run : (byte : ℕ → Option ℕ) (low high : ℕ) (run other : Run) → IsFirstRun byte low high run → IsFirstRun byte low high other → run ≡ other
unfolding make_run
one_run byte low high run other is that =
    let start = one_start byte low high run other is that in
    let long = one_length byte low high run other is that start in
    let bytes : run.bytes ≡ other.bytes = same_number_lists run.bytes other.bytes long (λ k within. one_byte byte low high run other is that start k within (omega arith)) in
    ap (λ n. make_run n run.bytes) start ∙ ap (make_run other.start) bytes

-- the maximal runs of given places are one list only
pub AreRuns-one : (byte : ℕ → Option ℕ) (low high : ℕ) (runs others : List Run) → AreRuns byte low high runs → AreRuns byte low high others → runs ≡ others
AreRuns-one byte low high [] [] none nothing = refl
AreRuns-one byte low high [] (other ∷ others) none those = absurd (no_run byte low high other those.0 none)
AreRuns-one byte low high (run ∷ runs) [] these none = absurd (no_run byte low high run these.0 none)
AreRuns-one byte low high (run ∷ runs) (other ∷ others) these those =
    let same : run ≡ other = one_run byte low high run other these.0 those.0 in
    let rest : AreRuns byte (run.start + length run.bytes) high others = subst (λ (first : Run). AreRuns byte (first.start + length first.bytes) high others) (sym same) those.1 in
    ap (λ first. first ∷ runs) same ∙ ap (λ later. other ∷ later) (AreRuns-one byte (run.start + length run.bytes) high runs others these.1 rest)
