-- Lists in ascending order with the same elements are one list.
use Rattle.std.proofs.Common.{◌≡◌, ℕ, zero, suc, ◌+◌, ◌<◌, ◌≤◌, ◌==◌, Bool, true, false, ◌&&◌, ◌||◌, cond, List, [], ◌∷◌, ◌++◌, length, get_or, sym, refl, ap, subst, ◌∙◌, arith, ⊎_elim}
use Rattle.std.specs.Bool.{⊤}
use Rattle.std.specs.List.{filter}
use Rattle.std.specs.List.Sorted.{IsStrictlyIncreasing}
use Rattle.std.proofs.lemmas.List.{append-nil}
use Rattle.std.proofs.lemmas.Bool.{false≢true, eqb-true, eq-eqb, ne_eqb, or_left, or_right, or_cases, cases_eq, cases_lt, cond-true, cond-false}
use Rattle.pattern_search.specs.Occurring.{numbers}
use Rattle.fast_pattern.specs.Blocks.{has}
use Rattle.pattern_search.proofs.Finding.Hitting.{numbers-same}

-- whether a list has a number
has-cons : (x : ℕ) (xs : List ℕ) (place : ℕ) → has (x ∷ xs) place ≡ ((x == place) || has xs place)
has-cons x xs place = refl

-- each number of a list is above those before it, and no less than this
abbrev IsRising : ℕ → List ℕ → Type 0
IsRising low [] = ⊤
IsRising low (x ∷ xs) = (low ≤ x) × IsRising (x + 1) xs

rising-from : (low high : ℕ) (xs : List ℕ) → low ≤ high → IsRising high xs → IsRising low xs
rising-from low high [] h up = tt
rising-from low high (x ∷ xs) h up = (omega (arith, up.0), up.1)

rising-increasing : (low : ℕ) (xs : List ℕ) → (0 < length xs → low ≤ get_or xs 0 0) → IsStrictlyIncreasing xs → IsRising low xs
rising-increasing low [] least up = tt
rising-increasing low (x ∷ []) least up = (least (omega arith), tt)
rising-increasing low (x ∷ (y ∷ ys)) least up = (
  least (omega arith),
  rising-increasing (x + 1) (y ∷ ys) (λ h. omega (arith, up 0 (omega arith)))
      (λ k h.
      let e : suc k + 1 ≡ suc (k + 1) = omega arith in
      let P : ℕ → Type 0 = λ i. get_or (y ∷ ys) k 0 < get_or (x ∷ (y ∷ ys)) i 0 in subst P e (up (suc k) (omega arith))),
)

has-below : (low place : ℕ) (xs : List ℕ) → IsRising low xs → place < low → has xs place ≡ false
has-below low place [] up h = refl
has-below low place (x ∷ xs) up h =
    ap (λ b. b || has xs place) (ne_eqb x place (λ e. omega (arith, up.0, e))) ∙ has-below (x + 1) place xs up.1 (omega (arith, up.0))

rising-numbers : (low count : ℕ) (xs : List ℕ) → IsRising low xs → ((place : ℕ) → has xs place ≡ true → place < low + count) → xs ≡ numbers (has xs) low count
unfolding numbers
rising-numbers low zero [] up within = refl
rising-numbers low zero (x ∷ xs) up within = absurd (omega (arith, up.0, within x (or_left (x == x) (has xs x) (eq-eqb x x refl))))
rising-numbers low (suc count) [] up within =
    rising-numbers (low + 1) count [] tt (λ place e. absurd (false≢true e))
rising-numbers low (suc count) (x ∷ xs) up within = ⊎_elim
    (λ same.
    let rest =
    rising-numbers (low + 1) count xs (rising-from (low + 1) (x + 1) xs (omega (arith, same)) up.1)
    (λ place e. let w = within place (or_right (x == place) (has xs place) e) in omega (arith, w)) in
    let tail =
    numbers-alike (has xs) (has (x ∷ xs)) (low + 1) count
    (λ place from to. sym (ap (λ b. b || has xs place) (ne_eqb x place (λ e. omega (arith, e, same, from))))) in
    ap (λ z. z ∷ xs) (sym same) ∙ ap (λ zs. low ∷ zs) (rest ∙ tail) ∙
    sym (cond-true (has (x ∷ xs) low) (low ∷ numbers (has (x ∷ xs)) (low + 1) count)
    (numbers (has (x ∷ xs)) (low + 1) count)
    (or_left (x == low) (has xs low) (eq-eqb x low (sym same)))))
    (λ ne.
    let above : low < x = ⊎_elim (λ lt. lt) (λ ge. absurd (ne (omega (arith, ge, up.0)))) (cases_lt low x) in
    let rest =
    rising-numbers (low + 1) count (x ∷ xs) (omega (arith, above), up.1)
    (λ place e. let w = within place e in omega (arith, w)) in
    rest ∙
    sym (cond-false (has (x ∷ xs) low) (low ∷ numbers (has (x ∷ xs)) (low + 1) count)
    (numbers (has (x ∷ xs)) (low + 1) count)
    (has-below x low (x ∷ xs) (omega arith, up.1) above)))
    (cases_eq low x)
  where
    numbers-alike : (one other : ℕ → Bool) (from n : ℕ) → ((place : ℕ) → from ≤ place → place < from + n → one place ≡ other place) → numbers one from n ≡ numbers other from n
    numbers-alike one other from n same = numbers-same one other from n same

-- a list without repeats, in ascending order, is the list of the numbers that it has
pub increasing-is : (count : ℕ) (xs : List ℕ) → IsStrictlyIncreasing xs → ((place : ℕ) → has xs place ≡ true → place < count) → xs ≡ numbers (has xs) 0 count
increasing-is count xs up within = rising-numbers 0 count xs (rising-increasing 0 xs (λ h. omega arith) up) (λ place e. omega (arith, within place e))

-- which numbers a list of numbers has
pub numbers-tell : (test : ℕ → Bool) (from count place : ℕ) → has (numbers test from count) place ≡ true → (from ≤ place) × (place < from + count) × (test place ≡ true)
unfolding numbers
numbers-tell test from zero place e = absurd (false≢true e)
numbers-tell test from (suc count) place e = go (test from) refl (λ f. let t = numbers-tell test (from + 1) count place f in (omega (arith, t.0), omega (arith, t.1), t.2)) e
  where
    go : (b : Bool)
        → test from ≡ b
        → (has (numbers test (from + 1) count) place ≡ true → (from ≤ place) × (place < from + suc count) × (test place ≡ true))
        → has (cond b (from ∷ numbers test (from + 1) count) (numbers test (from + 1) count)) place ≡ true
        → (from ≤ place) × (place < from + suc count) × (test place ≡ true)
    go true is later f =
        ⊎_elim
        (λ here. let same = eqb-true from place here in (omega (arith, same), omega (arith, same), sym (ap test same) ∙ is)) later
        (or_cases (from == place) (has (numbers test (from + 1) count) place) f)
    go false is later f = later f

pub numbers-have : (test : ℕ → Bool) (from count place : ℕ) → from ≤ place → place < from + count → test place ≡ true → has (numbers test from count) place ≡ true
unfolding numbers
numbers-have test from zero place low high is = absurd (omega arith)
numbers-have test from (suc count) place low high is = ⊎_elim
    (λ same. ap (λ ns. has ns place)
    (cond-true (test from) (from ∷ numbers test (from + 1) count) (numbers test (from + 1) count) (ap test same ∙ is)) ∙
    or_left (from == place) (has (numbers test (from + 1) count) place) (eq-eqb from place same))
    (λ ne.
    let above : from < place = ⊎_elim (λ lt. lt) (λ ge. absurd (ne (omega (arith, ge, low)))) (cases_lt from place) in
    let rest = numbers-have test (from + 1) count place (omega (arith, above)) (omega arith) is in
    go (test from) rest)
    (cases_eq from place)
  where
    go : (b : Bool) → has (numbers test (from + 1) count) place ≡ true → has (cond b (from ∷ numbers test (from + 1) count) (numbers test (from + 1) count)) place ≡ true
    go true rest = or_right (from == place) (has (numbers test (from + 1) count) place) rest
    go false rest = rest

-- a further test
pub filter-numbers : (more test : ℕ → Bool) (from count : ℕ) → filter more (numbers test from count) ≡ numbers (λ place. test place && more place) from count
unfolding numbers
filter-numbers more test from zero = refl
filter-numbers more test from (suc count) = go (test from) (more from) refl (filter-numbers more test (from + 1) count)
  where
    go : (x y : Bool)
        → more from ≡ y
        → filter more (numbers test (from + 1) count) ≡ numbers (λ place. test place && more place) (from + 1) count
        → filter more (cond x (from ∷ numbers test (from + 1) count) (numbers test (from + 1) count)) ≡
        cond (x && y) (from ∷ numbers (λ place. test place && more place) (from + 1) count)
        (numbers (λ place. test place && more place) (from + 1) count)
    go true true e rest = cond-true (more from) (from ∷ filter more (numbers test (from + 1) count)) (filter more (numbers test (from + 1) count)) e ∙ ap (λ ns. from ∷ ns) rest
    go true false e rest = cond-false (more from) (from ∷ filter more (numbers test (from + 1) count)) (filter more (numbers test (from + 1) count)) e ∙ rest
    go false y e rest = rest

-- one number more
pub numbers-push : (test : ℕ → Bool) (from count : ℕ) → numbers test from (count + 1) ≡ numbers test from count ++ cond (test (from + count)) ((from + count) ∷ []) []
unfolding numbers
numbers-push test from zero = let e : from ≡ from + 0 = omega arith in ap (λ (at : ℕ). cond (test at) (at ∷ []) []) e
numbers-push test from (suc count) =
    let e : suc count + 1 ≡ suc (count + 1) = omega arith in
    let at : from + 1 + count ≡ from + suc count = omega arith in
    ap (numbers test from) e
    ∙ ap (λ ns. cond (test from) (from ∷ ns) ns) (numbers-push test (from + 1) count ∙ ap (λ (a : ℕ). numbers test (from + 1) count ++ cond (test a) (a ∷ []) []) at)
    ∙ go (test from) (cond (test (from + suc count)) ((from + suc count) ∷ []) [])
  where
    go : (b : Bool) (tail : List ℕ)
        → cond b (from ∷ (numbers test (from + 1) count ++ tail)) (numbers test (from + 1) count ++ tail) ≡
        cond b (from ∷ numbers test (from + 1) count) (numbers test (from + 1) count) ++ tail
    go true tail = refl
    go false tail = refl

pub numbers-start : (test : ℕ → Bool) (from : ℕ) → numbers test from 0 ≡ []
unfolding numbers
numbers-start test from = refl

-- one number more, by its test
pub numbers-more : (test : ℕ → Bool) (count : ℕ) (before now : List ℕ) → before ≡ numbers test 0 count → test count ≡ true → now ≡ before ++ count ∷ [] → now ≡ numbers test 0 (count + 1)
numbers-more test count before now is on pushed =
    let at : count ≡ 0 + count = omega arith in
    pushed
    ∙ ap (λ ns. ns ++ count ∷ []) is
    ∙ sym (numbers-push test 0 count ∙ ap (λ (a : ℕ). numbers test 0 count ++ cond (test a) (a ∷ []) []) (sym at) ∙
    ap (λ b. numbers test 0 count ++ cond b (count ∷ []) []) on)

pub numbers-skip : (test : ℕ → Bool) (count : ℕ) (before : List ℕ) → before ≡ numbers test 0 count → test count ≡ false → before ≡ numbers test 0 (count + 1)
numbers-skip test count before is off =
    let at : count ≡ 0 + count = omega arith in
    is
    ∙ sym (append-nil (numbers test 0 count))
    ∙ sym (numbers-push test 0 count ∙ ap (λ (a : ℕ). numbers test 0 count ++ cond (test a) (a ∷ []) []) (sym at) ∙
    ap (λ b. numbers test 0 count ++ cond b (count ∷ []) []) off)
