-- How the resolution that options tell goes on from one option to the next.
use Rattle.std.proofs.Common.{◌≡◌, ℕ, zero, suc, ◌+◌, ◌-◌, ◌<◌, ◌≤◌, Bool, true, false, List, length, take, drop, Option, Some, None, refl, sym, ap, subst, ◌∙◌, arith}
use Rattle.std.specs.Prelude.{nat_lt, ◌==◌}
use Rattle.std.proofs.lemmas.List.{length-drop, take_rest}
use Rattle.std.proofs.lemmas.Bool.Decides.{nat_tests}
use Rattle.pcapng_input.specs.declared.resolution.Resolution.{Resolution}
use Rattle.pcapng_input.specs.declared.resolution.Resolution.TheVariants.{TenToMinus}
use Rattle.pcapng_input.specs.Options.{padded, option_code, option_length, option_value, option_size, found_in, resolution_along, resolution_told}

-- these options and that resolution so far tell what all options do
pub record Tells (swapped : Bool) (so_far : Resolution) (rest options : List ℕ) : Type 0 where
  pub most : ℕ
  pub enough : length rest < most
  pub same : resolution_told swapped options ≡ resolution_along most swapped so_far rest

pub tells_start : (swapped : Bool) (options : List ℕ) → Tells swapped (TenToMinus 6) options options
unfolding resolution_told
tells_start swapped options = record { most = length options + 1; enough = omega arith; same = refl }

-- no option is left
end_by : (swapped : Bool) (so_far : Resolution) (rest : List ℕ) (most : ℕ) → length rest < most → length rest < 4 → resolution_along most swapped so_far rest ≡ Some so_far
unfolding resolution_along
end_by swapped so_far rest zero enough fewer = refl
end_by swapped so_far rest (suc most) enough fewer =
    let test : nat_lt (length rest) 4 ≡ true = grind (arith, nat_tests) in
    rw (resolution_along, test) refl

pub tells_end : (swapped : Bool) (so_far : Resolution) (rest options : List ℕ) → Tells swapped so_far rest options → length rest < 4 → resolution_told swapped options ≡ Some so_far
tells_end swapped so_far rest options tells fewer = tells.same ∙ end_by swapped so_far rest tells.most tells.enough fewer

-- the option that ends the list
stop_by : (swapped : Bool) (so_far : Resolution) (rest : List ℕ) (most : ℕ)
    → length rest < most
    → 4 ≤ length rest
    → option_code swapped rest ≡ 0
    → resolution_along most swapped so_far rest ≡ Some so_far
unfolding resolution_along
stop_by swapped so_far rest zero enough long is = refl
stop_by swapped so_far rest (suc most) enough long is =
    let one : nat_lt (length rest) 4 ≡ false = grind (arith, nat_tests) in
    let two : (option_code swapped rest == 0) ≡ true = grind (arith, nat_tests, is) in
    rw (resolution_along, one, two) refl

pub tells_stop : (swapped : Bool) (so_far : Resolution) (rest options : List ℕ)
    → Tells swapped so_far rest options
    → 4 ≤ length rest
    → option_code swapped rest ≡ 0
    → resolution_told swapped options ≡ Some so_far
tells_stop swapped so_far rest options tells long is = tells.same ∙ stop_by swapped so_far rest tells.most tells.enough long is

-- an option that passes the end
past_by : (swapped : Bool) (so_far : Resolution) (rest : List ℕ) (most : ℕ) → length rest < most → 4 ≤ length rest → (option_code swapped rest ≡ 0 → ⊥) → length rest < option_size swapped rest
    → resolution_along most swapped so_far rest ≡ None
unfolding resolution_along
past_by swapped so_far rest zero enough long is fewer = absurd (omega arith)
past_by swapped so_far rest (suc most) enough long is fewer =
    let one : nat_lt (length rest) 4 ≡ false = grind (arith, nat_tests) in
    let two : (option_code swapped rest == 0) ≡ false = grind (arith, nat_tests, is) in
    let three : nat_lt (length rest) (option_size swapped rest) ≡ true = grind (arith, nat_tests) in
    rw (resolution_along, one, two, three) refl

pub tells_past : (swapped : Bool) (so_far : Resolution) (rest options : List ℕ) → Tells swapped so_far rest options → 4 ≤ length rest → (option_code swapped rest ≡ 0 → ⊥)
    → length rest < option_size swapped rest → resolution_told swapped options ≡ None
tells_past swapped so_far rest options tells long is fewer = tells.same ∙ past_by swapped so_far rest tells.most tells.enough long is fewer

-- an option that is no resolution
none_by : (swapped : Bool) (so_far : Resolution) (rest : List ℕ) (most : ℕ) → length rest < most → 4 ≤ length rest → (option_code swapped rest ≡ 0 → ⊥) → option_size swapped rest ≤ length rest
    → found_in so_far (option_code swapped rest) (option_value swapped rest) ≡ None → resolution_along most swapped so_far rest ≡ None
unfolding resolution_along
none_by swapped so_far rest zero enough long is fits none = absurd (omega arith)
none_by swapped so_far rest (suc most) enough long is fits none =
    let one : nat_lt (length rest) 4 ≡ false = grind (arith, nat_tests) in
    let two : (option_code swapped rest == 0) ≡ false = grind (arith, nat_tests, is) in
    let three : nat_lt (length rest) (option_size swapped rest) ≡ false = grind (arith, nat_tests) in
    rw (resolution_along, one, two, three, none) refl

pub tells_none : (swapped : Bool) (so_far : Resolution) (rest options : List ℕ) → Tells swapped so_far rest options → 4 ≤ length rest → (option_code swapped rest ≡ 0 → ⊥)
    → option_size swapped rest ≤ length rest → found_in so_far (option_code swapped rest) (option_value swapped rest) ≡ None → resolution_told swapped options ≡ None
tells_none swapped so_far rest options tells long is fits none = tells.same ∙ none_by swapped so_far rest tells.most tells.enough long is fits none

-- after one more option, the options left and the resolution found tell what all options do
more_by : (swapped : Bool) (so_far found : Resolution) (rest options : List ℕ) (most : ℕ) → resolution_told swapped options ≡ resolution_along most swapped so_far rest
    → length rest < most → 4 ≤ length rest → (option_code swapped rest ≡ 0 → ⊥) → option_size swapped rest ≤ length rest
    → found_in so_far (option_code swapped rest) (option_value swapped rest) ≡ Some found → Tells swapped found (drop (option_size swapped rest) rest) options
unfolding resolution_along
more_by swapped so_far found rest options zero same enough long is fits some = absurd (omega arith)
more_by swapped so_far found rest options (suc most) same enough long is fits some =
    let one : nat_lt (length rest) 4 ≡ false = grind (arith, nat_tests) in
    let two : (option_code swapped rest == 0) ≡ false = grind (arith, nat_tests, is) in
    let three : nat_lt (length rest) (option_size swapped rest) ≡ false = grind (arith, nat_tests) in
    let step : resolution_along (suc most) swapped so_far rest ≡ resolution_along most swapped found (drop (option_size swapped rest) rest) = rw (resolution_along, one, two, three, some) refl in
    record { most = most; enough = omega (arith, length-drop (option_size swapped rest) rest); same = same ∙ step }

pub tells_more : (swapped : Bool) (so_far found : Resolution) (rest options : List ℕ) → Tells swapped so_far rest options → 4 ≤ length rest → (option_code swapped rest ≡ 0 → ⊥)
    → option_size swapped rest ≤ length rest → found_in so_far (option_code swapped rest) (option_value swapped rest) ≡ Some found → Tells swapped found (drop (option_size swapped rest) rest) options
tells_more swapped so_far found rest options tells long is fits some = more_by swapped so_far found rest options tells.most tells.same tells.enough long is fits some

-- what the options tell, by the numbers that the code reads: an option's code, its length, and that filled up
pub record Reads (swapped : Bool) (rest : List ℕ) (code size full : ℕ) : Type 0 where
  pub code_is : code ≡ option_code swapped rest
  pub size_is : size ≡ option_length swapped rest
  pub full_is : full ≡ padded size

size_reads : (swapped : Bool) (rest : List ℕ) (code size full : ℕ) → Reads swapped rest code size full → option_size swapped rest ≡ 4 + full
size_reads swapped rest code size full reads =
    ap (λ (n : ℕ). 4 + padded n) (sym reads.size_is) ∙ ap (λ (n : ℕ). 4 + n) (sym reads.full_is)

value_reads : (swapped : Bool) (rest : List ℕ) (code size full : ℕ) → Reads swapped rest code size full → take (4 + size - 4) (drop 4 rest) ≡ option_value swapped rest
value_reads swapped rest code size full reads =
    let less : 4 + size - 4 ≡ size = omega arith in
    ap (λ (n : ℕ). take n (drop 4 rest)) (less ∙ reads.size_is)

found_reads : (swapped : Bool) (so_far : Resolution) (rest : List ℕ) (code size full : ℕ) (found : Option Resolution) → Reads swapped rest code size full
    → found ≡ found_in so_far code (take (4 + size - 4) (drop 4 rest)) → found_in so_far (option_code swapped rest) (option_value swapped rest) ≡ found
found_reads swapped so_far rest code size full found reads is =
    ap (λ (n : ℕ). found_in so_far n (option_value swapped rest)) (sym reads.code_is)
    ∙ ap (found_in so_far code) (sym (value_reads swapped rest code size full reads)) ∙ sym is

pub reads_past : (swapped : Bool) (so_far : Resolution) (rest options : List ℕ) (code size full : ℕ) → Tells swapped so_far rest options → Reads swapped rest code size full
    → 4 ≤ length rest → (code ≡ 0 → ⊥) → length rest < 4 + full → None ≡ resolution_told swapped options
reads_past swapped so_far rest options code size full tells reads long is fewer =
    sym (tells_past swapped so_far rest options tells long (λ ends. is (reads.code_is ∙ ends)) (omega (arith, size_reads swapped rest code size full reads)))

pub reads_none : (swapped : Bool) (so_far : Resolution) (rest options : List ℕ) (code size full : ℕ) → Tells swapped so_far rest options → Reads swapped rest code size full
    → 4 ≤ length rest → (code ≡ 0 → ⊥) → 4 + full ≤ length rest → None ≡ found_in so_far code (take (4 + size - 4) (drop 4 rest)) → None ≡ resolution_told swapped options
reads_none swapped so_far rest options code size full tells reads long is fits none =
    sym (tells_none swapped so_far rest options tells long (λ ends. is (reads.code_is ∙ ends)) (omega (arith, size_reads swapped rest code size full reads))
    (found_reads swapped so_far rest code size full None reads none))

pub reads_more : (swapped : Bool) (so_far found : Resolution) (rest options : List ℕ) (code size full : ℕ) → Tells swapped so_far rest options → Reads swapped rest code size full
    → 4 ≤ length rest → (code ≡ 0 → ⊥) → 4 + full ≤ length rest → Some found ≡ found_in so_far code (take (4 + size - 4) (drop 4 rest))
    → Tells swapped found (take (length rest - (4 + full)) (drop (4 + full) rest)) options
reads_more swapped so_far found rest options code size full tells reads long is fits some =
    let more = tells_more swapped so_far found rest options tells long (λ ends. is (reads.code_is ∙ ends)) (omega (arith, size_reads swapped rest code size full reads))
    (found_reads swapped so_far rest code size full (Some found) reads some) in
    let left : drop (option_size swapped rest) rest ≡ take (length rest - (4 + full)) (drop (4 + full) rest) =
    ap (λ (n : ℕ). drop n rest) (size_reads swapped rest code size full reads) ∙ sym (take_rest rest (4 + full)) in
    subst (λ (xs : List ℕ). Tells swapped found xs options) left more
