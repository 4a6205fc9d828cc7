-- Which files are no savefiles, by their first bytes.
use Rattle.std.proofs.Common.{◌≡◌, ◌≤◌, ℕ, true, false, List, length, Err, refl, arith}
use Rattle.std.specs.Prelude.{◌==◌, nat_lt}
use Rattle.std.proofs.lemmas.Bool.Decides.{nat_tests}
use Rattle.pcap_input.specs.declared.capture.CaptureFault.TheVariants.{NotPcap}
use Rattle.pcap_input.specs.Savefile.{file_header, head_of, number_at}

-- four bytes that are the type of a section header are no magic number of a savefile, in either order
magics_apart : (bytes : List ℕ) → number_at false 0 4 bytes ≡ 0x0a0d_0d0a → (number_at true 0 4 bytes ≡ 0xa1b2_c3d4 → ⊥) × (number_at true 0 4 bytes ≡ 0xa1b2_3c4d → ⊥)
unfolding number_at
magics_apart bytes is = (λ other. omega (arith, is, other), λ other. omega (arith, is, other))

-- a file that begins with the type of a section header has no head
pub section-head : (bytes : List ℕ) → file_header ≤ length bytes → number_at false 0 4 bytes ≡ 0x0a0d_0d0a → head_of bytes ≡ Err NotPcap
unfolding head_of
section-head bytes enough begins =
    let long : nat_lt (length bytes) 24 ≡ false = grind (arith, nat_tests, enough) in
    let apart = magics_apart bytes begins in
    let one : (number_at false 0 4 bytes == 0xa1b2_c3d4) ≡ false = grind (arith, nat_tests, begins) in
    let two : (number_at false 0 4 bytes == 0xa1b2_3c4d) ≡ false = grind (arith, nat_tests, begins) in
    let three : (number_at true 0 4 bytes == 0xa1b2_c3d4) ≡ false = grind (arith, nat_tests, apart.0) in
    let four : (number_at true 0 4 bytes == 0xa1b2_3c4d) ≡ false = grind (arith, nat_tests, apart.1) in
    rw (long, one, two, three, four) refl
