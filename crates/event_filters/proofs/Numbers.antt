-- The number that a window keeps follows the number of its interval's events, as far as its line can tell.
use Rattle.std.proofs.Common.{◌≡◌, ℕ, ◌+◌, ◌-◌, ◌*◌, ◌/◌, ◌%◌, ◌<◌, ◌≤◌, Bool, true, false, cond, eqb, ltb, leb, min, inl, inr, refl, sym, ap, ◌∙◌, arith}
use Rattle.std.proofs.lemmas.Bool.{cases_lt}
use Rattle.std.proofs.lemmas.Bool.Decides.{nat_tests}
use Rattle.std.proofs.lemmas.Nat.{div-add-mod', mod-mul-add, mod_below}
use Rattle.event_filters.specs.declared.counting.CountKind.{CountKind}
use Rattle.event_filters.specs.declared.counting.CountKind.TheVariants.{Limit, Threshold, Both, Above}
use Rattle.event_filters.specs.Counting.{lets}
use Rattle.event_filters.specs.Windows.{next_number, shows, shown}

mod_up : (m c : ℕ) → m % c + 1 < c → (m + 1) % c ≡ m % c + 1
mod_up m c lt =
    let e : m + 1 ≡ m / c * c + (m % c + 1) = omega (arith, div-add-mod' m c) in
    ap (λ (x : ℕ). x % c) e ∙ mod-mul-add (m / c) c (m % c + 1) lt

mod_over : (m c : ℕ) → 0 < c → c ≤ m % c + 1 → (m + 1) % c ≡ 0
mod_over m c some le =
    let e : m + 1 ≡ (m / c + 1) * c + 0 = omega (arith, div-add-mod' m c, mod_below m c some) in
    ap (λ (x : ℕ). x % c) e ∙ mod-mul-add (m / c + 1) c 0 some

-- a threshold's number, once the interval has one event more
threshold_next : (m c : ℕ) → 0 < c → cond (ltb (m % c + 1) c) (m % c + 1 + 1) 1 ≡ (m + 1) % c + 1
threshold_next m c some =
    elim (cases_lt (m % c + 1) c) [
      | inl lt ↦ let e = mod_up m c lt in grind (arith, nat_tests)
      | inr le ↦ let e = mod_over m c some le in grind (arith, nat_tests)
    ]

threshold_shows : (m c : ℕ) → 0 < c → eqb (m % c + 1) c ≡ eqb ((m + 1) % c) 0
threshold_shows m c some =
    let below = mod_below m c some in
    elim (cases_lt (m % c + 1) c) [
      | inl lt ↦ let e = mod_up m c lt in grind (arith, nat_tests)
      | inr le ↦ let e = mod_over m c some le in grind (arith, nat_tests)
    ]

pub next_number-shown : (kind : CountKind) (count m : ℕ) → 0 < count → next_number kind count (shown kind count (m + 1)) ≡ shown kind count (m + 1 + 1)
next_number-shown Limit count m some = omega arith
next_number-shown Threshold count m some =
    let one : m + 1 - 1 ≡ m = omega arith in
    let two : m + 1 + 1 - 1 ≡ m + 1 = omega arith in
    rw (one, two) (threshold_next m count some)
next_number-shown Both count m some = omega arith
next_number-shown Above count m some = omega arith

pub shows-shown : (kind : CountKind) (count m : ℕ) → 0 < count → shows kind count (shown kind count (m + 1)) ≡ lets kind count (m + 1)
shows-shown Limit count m some = grind (arith, nat_tests)
shows-shown Threshold count m some =
    let one : m + 1 - 1 ≡ m = omega arith in
    rw one (threshold_shows m count some)
shows-shown Both count m some = grind (arith, nat_tests)
shows-shown Above count m some = grind (arith, nat_tests)

-- the first event's number is 1
pub shown-one : (kind : CountKind) (count : ℕ) → 0 < count → shown kind count 1 ≡ 1
shown-one Limit count some = omega arith
shown-one Threshold count some = omega arith
shown-one Both count some = omega arith
shown-one Above count some = omega arith
