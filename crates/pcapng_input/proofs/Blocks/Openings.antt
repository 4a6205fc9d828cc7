-- What the first bytes of a file show: whether it begins with a section header, and that header's block.
use Rattle.std.proofs.Common.{◌≡◌, ℕ, ◌+◌, ◌<◌, ◌≤◌, Bool, true, false, List, ◌++◌, Some, None, length, take, drop, refl, ap, ◌∙◌, arith}
use Rattle.std.specs.Prelude.{nat_lt, nat_le, ◌==◌}
use Rattle.std.proofs.lemmas.List.{length-append, take_at, drop_at}
use Rattle.std.proofs.lemmas.Bool.Decides.{nat_tests}
use Rattle.pcap_input.specs.Savefile.{number_at}
use Rattle.pcap_input.proofs.Laws.{number_at-append}
use Rattle.pcapng_input.specs.declared.capture.NgFault.TheVariants as fault
use Rattle.pcapng_input.specs.Blocks.{section_type, refused, truncated, order_of, first_walk, new_section, known, section_block, opening}
use Rattle.pcapng_input.proofs.Blocks.Stages.{IsAfter, IsRefused, CutsBelow}
use Rattle.pcapng_input.proofs.Blocks.Begins.{step_begun, begun_section, section_known}

-- fewer bytes than a type
pub opening_short : (bytes : List ℕ) → length bytes < 4 → opening bytes ≡ refused fault.NotPcapng
unfolding opening
opening_short bytes fewer =
    let test : nat_le 4 (length bytes) ≡ false = grind (arith, nat_tests) in
    rw test refl

-- a file that begins with another type is refused
pub opening_other : (front : List ℕ) → 4 ≤ length front → (number_at false 0 4 front ≡ section_type → ⊥) → IsRefused opening fault.NotPcapng front
unfolding opening
opening_other front long differs more =
    let same = number_at-append false 0 4 front more long in
    let one : nat_le 4 (length (front ++ more)) ≡ true = grind (arith, nat_tests, length-append front more) in
    let two : (number_at false 0 4 front == section_type) ≡ false = grind (arith, nat_tests, differs) in
    rw (one, same, two) refl

-- fewer bytes than a type, a total length and a magic
pub opening_cut : (bytes : List ℕ) → 4 ≤ length bytes → number_at false 0 4 bytes ≡ section_type → length bytes < 12 → opening bytes ≡ truncated first_walk
unfolding opening
opening_cut bytes long is fewer =
    let one : nat_le 4 (length bytes) ≡ true = grind (arith, nat_tests) in
    let two : (number_at false 0 4 bytes == section_type) ≡ true = grind (arith, nat_tests, is) in
    let three : nat_lt (length bytes) 12 ≡ true = grind (arith, nat_tests) in
    rw (one, two, three) refl

-- after the first eight bytes, fewer than a magic
pub magic_cuts : (first : List ℕ) → length first ≡ 8 → number_at false 0 4 first ≡ section_type → CutsBelow (λ more. opening (first ++ more)) 0 4
magic_cuts first size is bytes fewer =
    opening_cut (first ++ bytes) (omega (arith, length-append first bytes)) (number_at-append false 0 4 first bytes (omega arith) ∙ is) (omega (arith, length-append first bytes))

-- a magic that is none
pub magic_none : (first magic : List ℕ) → length first ≡ 8 → number_at false 0 4 first ≡ section_type → length magic ≡ 4 → order_of magic ≡ None
    → IsRefused (λ more. opening (first ++ more)) fault.NotPcapng magic
unfolding opening
magic_none first magic size is four none more =
    let all = first ++ (magic ++ more) in
    let long : length all ≡ 12 + length more = omega (arith, length-append first (magic ++ more), length-append magic more) in
    let one : nat_le 4 (length all) ≡ true = grind (arith, nat_tests) in
    let same = number_at-append false 0 4 first (magic ++ more) (omega arith) in
    let two : (number_at false 0 4 first == section_type) ≡ true = grind (arith, nat_tests, is) in
    let three : nat_lt (length all) 12 ≡ false = grind (arith, nat_tests) in
    let after : take 4 (drop 8 all) ≡ magic = ap (take 4) (drop_at first (magic ++ more) 8 size) ∙ take_at magic more 4 four in
    rw (one, same, two, three, after, none) refl

-- a magic
pub magic_known : (first magic : List ℕ) (swapped : Bool) → length first ≡ 8 → number_at false 0 4 first ≡ section_type → length magic ≡ 4 → order_of magic ≡ Some swapped
    → IsAfter (λ more. opening (first ++ more)) magic (known (new_section first_walk swapped) (section_block swapped first))
unfolding opening
magic_known first magic swapped size is four some more =
    let all = first ++ (magic ++ more) in
    let long : length all ≡ 12 + length more = omega (arith, length-append first (magic ++ more), length-append magic more) in
    let one : nat_le 4 (length all) ≡ true = grind (arith, nat_tests) in
    let same = number_at-append false 0 4 first (magic ++ more) (omega arith) in
    let two : (number_at false 0 4 first == section_type) ≡ true = grind (arith, nat_tests, is) in
    let three : nat_lt (length all) 12 ≡ false = grind (arith, nat_tests) in
    let after : take 4 (drop 8 all) ≡ magic = ap (take 4) (drop_at first (magic ++ more) 8 size) ∙ take_at magic more 4 four in
    rw (one, same, two, three, after, some)
    (step_begun first_walk first size refl (magic ++ more) ∙ begun_section first_walk first is (magic ++ more) ∙ section_known first_walk first magic swapped four some more)
