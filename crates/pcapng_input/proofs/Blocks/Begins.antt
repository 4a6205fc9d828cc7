-- What the first bytes of a block, or fewer, show: each stage, by the piece that it reads.
use Rattle.std.proofs.Common.{◌≡◌, ℕ, ◌+◌, ◌<◌, ◌≤◌, Bool, true, false, List, [], ◌++◌, Some, None, Ok, Err, length, take, refl, arith}
use Rattle.std.specs.Prelude.{nat_lt, ◌==◌}
use Rattle.std.proofs.lemmas.List.{length-append, take_at, drop_at}
use Rattle.std.proofs.lemmas.Bool.Decides.{nat_tests}
use Rattle.byteorder.specs.Numbers.{little_from-take}
use Rattle.pcap_input.specs.Savefile.{number_at}
use Rattle.pcapng_input.specs.declared.capture.NgFault.{NgFault}
use Rattle.pcapng_input.specs.declared.capture.NgFault.TheVariants as fault
use Rattle.pcapng_input.specs.declared.block.Block.{Block}
use Rattle.pcapng_input.specs.declared.content.BlockContent.{BlockContent}
use Rattle.pcapng_input.specs.declared.walk.Walk.{Walk}
use Rattle.pcap_input.specs.Cut.{Clean}
use Rattle.pcapng_input.specs.Blocks.{section_type, Stops, refused, truncated, bad_block, front_length, is_sized, order_of}
use Rattle.pcapng_input.specs.Blocks.{new_section, content_of, closing, fronted, known, section_block, other_block, section_begun}
use Rattle.pcapng_input.specs.Blocks.{begun, is_full, step_of}
use Rattle.pcapng_input.specs.Steps.{HoldsNone, HasRoom}
use Rattle.pcapng_input.proofs.Blocks.Stages.{IsAfter, IsRefused, CutsBelow}

-- a fixed front that is refused, and one that tells something
pub fronted-err : (walk : Walk) (block : Block) (front : List ℕ) (why : NgFault) → content_of walk block front ≡ Err why
    → (more : List ℕ) → fronted walk block front more ≡ refused why
unfolding fronted
fronted-err walk block front why is more = rw (fronted, is) refl

pub fronted-ok : (walk : Walk) (block : Block) (front : List ℕ) (told : BlockContent) → content_of walk block front ≡ Ok told
    → (more : List ℕ) → fronted walk block front more ≡ closing walk block told more
unfolding fronted
fronted-ok walk block front told is more = rw (fronted, is) refl

-- a total length that no such block has
pub known_bad : (walk : Walk) (block : Block) → is_sized block ≡ false → (more : List ℕ) → known walk block more ≡ refused (bad_block walk)
unfolding known
known_bad walk block is more = rw is refl

-- fewer bytes than the fixed front
pub known_cuts : (walk : Walk) (block : Block) → is_sized block ≡ true → CutsBelow (known walk block) walk.at (front_length block.kind)
unfolding known
known_cuts walk block is bytes fewer =
    let test : nat_lt (length bytes) (front_length block.kind) ≡ true = grind (arith, nat_tests) in
    rw (is, test) refl

-- the fixed front
pub known_fronted : (walk : Walk) (block : Block) (front : List ℕ) → is_sized block ≡ true → length front ≡ front_length block.kind
    → IsAfter (known walk block) front (fronted walk block front)
unfolding known
known_fronted walk block front is size more =
    let test : nat_lt (length (front ++ more)) (front_length block.kind) ≡ false = grind (arith, nat_tests, length-append front more) in
    let one = take_at front more (front_length block.kind) size in
    let two = drop_at front more (front_length block.kind) size in
    rw (is, test, one, two) refl

-- fewer bytes than a byte-order magic
pub section_cuts : (walk : Walk) (first : List ℕ) → CutsBelow (section_begun walk first) walk.at 4
unfolding section_begun
section_cuts walk first bytes fewer =
    let test : nat_lt (length bytes) 4 ≡ true = grind (arith, nat_tests) in
    rw test refl

-- a magic that is none
pub section_none : (walk : Walk) (first magic : List ℕ) → length magic ≡ 4 → order_of magic ≡ None → IsRefused (section_begun walk first) (bad_block walk) magic
unfolding section_begun
section_none walk first magic size is more =
    let test : nat_lt (length (magic ++ more)) 4 ≡ false = grind (arith, nat_tests, length-append magic more) in
    let one = take_at magic more 4 size in
    rw (test, one, is) refl

-- a magic
pub section_known : (walk : Walk) (first magic : List ℕ) (swapped : Bool) → length magic ≡ 4 → order_of magic ≡ Some swapped
    → IsAfter (section_begun walk first) magic (known (new_section walk swapped) (section_block swapped first))
unfolding section_begun
section_known walk first magic swapped size is more =
    let test : nat_lt (length (magic ++ more)) 4 ≡ false = grind (arith, nat_tests, length-append magic more) in
    let one = take_at magic more 4 size in
    let two = drop_at magic more 4 size in
    rw (test, one, is, two) refl

-- the first eight bytes of a section header, and of another block
pub begun_section : (walk : Walk) (first : List ℕ) → number_at false 0 4 first ≡ section_type → (more : List ℕ) → begun walk first more ≡ section_begun walk first more
unfolding begun
begun_section walk first is more =
    let test : (number_at false 0 4 first == section_type) ≡ true = grind (arith, nat_tests, is) in
    rw test refl

pub begun_other : (walk : Walk) (first : List ℕ) → (number_at false 0 4 first ≡ section_type → ⊥)
    → (more : List ℕ) → begun walk first more ≡ known walk (other_block walk.section.swapped first) more
unfolding begun
begun_other walk first differs more =
    let test : (number_at false 0 4 first == section_type) ≡ false = grind (arith, nat_tests, differs) in
    rw test refl

-- nothing is left
pub step_nothing : (walk : Walk) → step_of walk [] ≡ Stops Clean
unfolding step_of
step_nothing walk = refl

-- a byte is left where no block is read any more
pub step_full : (walk : Walk) (bytes : List ℕ) → 0 < length bytes → is_full walk ≡ true → step_of walk bytes ≡ refused fault.TooMany
unfolding step_of
step_full walk bytes some full =
    let test : (length bytes == 0) ≡ false = grind (arith, nat_tests) in
    rw (test, full) refl

-- a part of the first eight bytes
pub step_cut : (walk : Walk) (bytes : List ℕ) → 0 < length bytes → length bytes < 8 → is_full walk ≡ false → step_of walk bytes ≡ truncated walk
unfolding step_of
step_cut walk bytes some fewer room =
    let one : (length bytes == 0) ≡ false = grind (arith, nat_tests) in
    let two : nat_lt (length bytes) 8 ≡ true = grind (arith, nat_tests) in
    rw (one, room, two) refl

-- the first eight bytes
pub step_begun : (walk : Walk) (first : List ℕ) → length first ≡ 8 → is_full walk ≡ false → IsAfter (step_of walk) first (begun walk first)
unfolding step_of
step_begun walk first size room more =
    let long : length (first ++ more) ≡ 8 + length more = omega (arith, length-append first more) in
    let one : (length (first ++ more) == 0) ≡ false = grind (arith, nat_tests) in
    let two : nat_lt (length (first ++ more)) 8 ≡ false = grind (arith, nat_tests) in
    let front = take_at first more 8 size in
    let back = drop_at first more 8 size in
    rw (one, room, two, front, back) refl

few_by : (walk : Walk) (bytes : List ℕ) (empty full : Bool) → (length bytes == 0) ≡ empty → is_full walk ≡ full → length bytes < 8 → HoldsNone (step_of walk bytes)
unfolding step_of
few_by walk bytes true full is_empty is fewer = rw is_empty tt
few_by walk bytes false true is_empty is fewer = rw (is_empty, is) tt
few_by walk bytes false false is_empty is fewer =
    let two : nat_lt (length bytes) 8 ≡ true = grind (arith, nat_tests) in
    rw (is_empty, is, two) tt

-- fewer than eight bytes hold no record
pub step_few : (walk : Walk) (bytes : List ℕ) → length bytes < 8 → HoldsNone (step_of walk bytes)
step_few walk bytes fewer = few_by walk bytes (length bytes == 0) (is_full walk) refl refl fewer

-- where blocks are read, there is room
pub room_has : (walk : Walk) → is_full walk ≡ false → HasRoom walk
room_has walk is = record { few = grind (arith, nat_tests, is); near = grind (arith, nat_tests, is) }

-- a number at the beginning is that of a front
pub number_front : (count : ℕ) (bytes : List ℕ) → 4 ≤ count → number_at false 0 4 (take count bytes) ≡ number_at false 0 4 bytes
unfolding number_at
number_front count bytes fits = little_from-take 0 4 count bytes (omega arith)
