-- Marks, one more place at a time.
use Rattle.std.proofs.Common.{◌≡◌, ℕ, ◌≤◌, ◌<◌, ◌==◌, Bool, true, false, cond, ◌&&◌, ◌||◌, not, ltb, [], sym, refl, ap, ◌∙◌, arith, ⊎_elim}
use Rattle.std.specs.List.{list_any}
use Rattle.std.specs.Ordering.{is_eq, nat_cmp}
use Rattle.std.specs.BTreeMap.{is_at}
use Rattle.std.specs.BTreeSet.{contains}
use Rattle.std.proofs.lemmas.Bool.Decides.{nat_tests}
use Rattle.std.proofs.lemmas.Bool.{cases_eq, ne_eqb, or_left, not-false, lt-ltb, le-ltb}
use Rattle.pattern_search.specs.declared.seen.MarkSet.{MarkSet}
use Rattle.pattern_search.specs.Marking.{is_marked}

-- a place past the count
pub past-answer : (count at : ℕ) (b : Bool) → count ≤ at → false ≡ (ltb at count && b)
past-answer count at b h = sym (ap (λ a. a && b) (le-ltb at count h))

pub below-answer : (count at : ℕ) (b fresh : Bool) → at < count → fresh ≡ b → fresh ≡ (ltb at count && b)
below-answer count at b fresh h e = e ∙ sym (ap (λ a. a && b) (lt-ltb at count h))

pub past-marks : (seen : MarkSet) (at place : ℕ) → is_marked seen place ≡ (is_marked seen place || (false && (place == at)))
past-marks seen at place = go (is_marked seen place)
  where
    go : (b : Bool) → b ≡ (b || false)
    go true = refl
    go false = refl

-- where the place was marked, nothing more is
pub answer-marks : (old new : MarkSet) (at : ℕ) (fresh : Bool)
    → fresh ≡ not (is_marked old at)
    → ((place : ℕ) → is_marked new place ≡ (is_marked old place || (place == at)))
    → (place : ℕ)
    → is_marked new place ≡ (is_marked old place || (fresh && (place == at)))
answer-marks old new at true e also place = also place
answer-marks old new at false e also place = also place ∙ ⊎_elim
    (λ here.
    let was : is_marked old place ≡ true = ap (is_marked old) here ∙ not-false (is_marked old at) (sym e) in
    or_left (is_marked old place) (place == at) was ∙ sym (or_left (is_marked old place) false was))
    (λ ne. ap (λ b. is_marked old place || b) (ne_eqb place at ne))
    (cases_eq place at)

-- no place is marked yet, and then one more
pub none-marked : (seen : MarkSet) → seen.places.keys ≡ [] → (place : ℕ) → is_marked seen place ≡ false
unfolding is_marked
none-marked seen none place = ap (list_any (is_at (nat_cmp place))) none

place-test : (at place : ℕ) → is_eq (nat_cmp at place) ≡ (place == at)
place-test at place = grind (arith, nat_tests)

pub marks-added : (old new : MarkSet) (at : ℕ)
    → ((place : ℕ) → contains nat_cmp new.places place ≡ cond (is_at (nat_cmp at) place) true (contains nat_cmp old.places place))
    → (place : ℕ)
    → is_marked new place ≡ (is_marked old place || (place == at))
unfolding is_marked
marks-added old new at added place =
    added place
    ∙ ap (λ b. cond b true (contains nat_cmp old.places place)) (place-test at place)
    ∙ go (place == at) (contains nat_cmp old.places place)
  where
    go : (b x : Bool) → cond b true x ≡ (x || b)
    go true true = refl
    go true false = refl
    go false true = refl
    go false false = refl

pub answer-is : (old : MarkSet) (at : ℕ) (fresh : Bool) → fresh ≡ not (contains nat_cmp old.places at) → fresh ≡ not (is_marked old at)
unfolding is_marked
answer-is old at fresh e = e
