-- Each block lies after the one before, and leaves fewer bytes.
use Rattle.std.proofs.Common.{◌≡◌, ℕ, ◌+◌, ◌<◌, ◌≤◌, Bool, true, false, List, length, take, drop, Option, Some, None, Result, Ok, Err, refl, sym, subst, arith}
use Rattle.std.specs.Prelude.{if◌then◌else◌, nat_lt, ◌==◌, ⊤}
use Rattle.std.proofs.lemmas.List.{length-drop}
use Rattle.std.proofs.lemmas.Bool.Decides.{nat_tests}
use Rattle.pcap_input.specs.Savefile.{number_at}
use Rattle.pcapng_input.specs.declared.capture.NgFault.{NgFault}
use Rattle.pcapng_input.specs.declared.capture.NgRecord.{NgRecord}
use Rattle.pcapng_input.specs.declared.capture.NgFault.TheVariants as fault
use Rattle.pcapng_input.specs.declared.block.Block.{Block}
use Rattle.pcapng_input.specs.declared.content.BlockContent.{BlockContent}
use Rattle.pcapng_input.specs.declared.content.BlockContent.TheVariants as content
use Rattle.pcapng_input.specs.declared.resolution.Resolution.{Resolution}
use Rattle.pcapng_input.specs.declared.walk.Walk.{Walk}
use Rattle.pcapng_input.specs.Options.{resolution_told}
use Rattle.pcap_input.specs.Cut.{Ending, Clean}
use Rattle.pcapng_input.specs.Blocks.{last_place, section_type, Step, Stops, Skips, Gives, refused, truncated, bad_block}
use Rattle.pcapng_input.specs.Blocks.{front_length, is_sized, inner_length, order_of, new_section, content_of, given_by, closing}
use Rattle.pcapng_input.specs.Blocks.{fronted, known, section_block, other_block, section_begun, begun, is_full, step_of}
use Rattle.pcapng_input.proofs.Blocks.Sizes.{sized_fits}
use Rattle.pcapng_input.proofs.Blocks.Begins.{fronted-err, fronted-ok}

-- the walk lies after this place, and fewer than `count` bytes are left
abbrev pub Moves : ℕ → ℕ → Step → Type 0
Moves place count (Stops ending) = ⊤
Moves place count (Skips walk more) = (place < walk.at) × (length more < count)
Moves place count (Gives given walk more) = (place < walk.at) × (length more < count)

-- a choice of two moves where both do
either : (place count : ℕ) (test : Bool) (x y : Step) → (test ≡ true → Moves place count x) → (test ≡ false → Moves place count y) → Moves place count (if test then x else y)
either place count true x y one other = one refl
either place count false x y one other = other refl

interface_moves : (walk : Walk) (block : Block) (link snaplen count : ℕ) (inner more : List ℕ) (told : Option Resolution) → resolution_told walk.section.swapped inner ≡ told
    → 0 < block.total → length more < count → Moves walk.at count (given_by walk block (content.Interface link snaplen) inner more)
unfolding given_by
interface_moves walk block link snaplen count inner more None is some fewer = rw (given_by, is) tt
interface_moves walk block link snaplen count inner more (Some resolution) is some fewer = rw (given_by, is) (omega arith, fewer)

given_moves : (walk : Walk) (block : Block) (told : BlockContent) (count : ℕ) (inner more : List ℕ) → 0 < block.total → length more < count → Moves walk.at count (given_by walk block told inner more)
unfolding given_by
given_moves walk block content.Skipped count inner more some fewer = (omega arith, fewer)
given_moves walk block (content.Interface link snaplen) count inner more some fewer = interface_moves walk block link snaplen count inner more _ refl some fewer
given_moves walk block (content.Packet packet) count inner more some fewer = (omega arith, fewer)

closing_moves : (walk : Walk) (block : Block) (told : BlockContent) (count : ℕ) (after : List ℕ) → 0 < block.total → length after < count → Moves walk.at count (closing walk block told after)
unfolding closing
closing_moves walk block told count after some fewer =
    either walk.at count (nat_lt (length after) (inner_length block + 4)) (truncated walk) _ (λ _. tt)
    (λ _. either walk.at count (number_at walk.section.swapped 0 4 (drop (inner_length block) after) == block.total)
    (given_by walk block told (take (inner_length block) after) (drop (inner_length block + 4) after)) (refused (bad_block walk))
    (λ _. given_moves walk block told count (take (inner_length block) after) (drop (inner_length block + 4) after) some (omega (arith, length-drop (inner_length block + 4) after)))
    (λ _. tt))

fronted_by : (walk : Walk) (block : Block) (front : List ℕ) (count : ℕ) (after : List ℕ) (told : Result BlockContent NgFault) → content_of walk block front ≡ told
    → 0 < block.total → length after < count → Moves walk.at count (fronted walk block front after)
fronted_by walk block front count after (Err why) is some fewer = subst (Moves walk.at count) (sym (fronted-err walk block front why is after)) tt
fronted_by walk block front count after (Ok told) is some fewer =
    subst (Moves walk.at count) (sym (fronted-ok walk block front told is after)) (closing_moves walk block told count after some fewer)

known_by : (walk : Walk) (block : Block) (count : ℕ) (body : List ℕ) (sized : Bool) → is_sized block ≡ sized → length body < count → Moves walk.at count (known walk block body)
unfolding known
known_by walk block count body false is fewer = rw is tt
known_by walk block count body true is fewer =
    let fits = sized_fits block is in
    rw is (either walk.at count (nat_lt (length body) (front_length block.kind)) (truncated walk) _ (λ _. tt)
    (λ _. fronted_by walk block (take (front_length block.kind) body) count (drop (front_length block.kind) body) _ refl (omega arith) (omega (arith, length-drop (front_length block.kind) body))))

known_moves : (walk : Walk) (block : Block) (count : ℕ) (body : List ℕ) → length body < count → Moves walk.at count (known walk block body)
known_moves walk block count body fewer = known_by walk block count body (is_sized block) refl fewer

section_by : (walk : Walk) (first : List ℕ) (count : ℕ) (body : List ℕ) (order : Option Bool)
    → order_of (take 4 body) ≡ order
    → length body < count
    → Moves walk.at count (section_begun walk first body)
unfolding section_begun
section_by walk first count body None is fewer =
    either walk.at count (nat_lt (length body) 4) (truncated walk) _ (λ _. tt) (λ _. rw is tt)
section_by walk first count body (Some swapped) is fewer =
    either walk.at count (nat_lt (length body) 4) (truncated walk) _ (λ _. tt)
    (λ _. rw is (known_moves (new_section walk swapped) (section_block swapped first) count (drop 4 body) (omega (arith, length-drop 4 body))))

begun_moves : (walk : Walk) (first : List ℕ) (count : ℕ) (body : List ℕ) → length body < count → Moves walk.at count (begun walk first body)
unfolding begun
begun_moves walk first count body fewer =
    either walk.at count (number_at false 0 4 first == section_type) (section_begun walk first body) _
    (λ _. section_by walk first count body _ refl fewer)
    (λ _. known_moves walk (other_block walk.section.swapped first) count body fewer)

-- the block that comes next leaves fewer bytes
pub step_moves : (walk : Walk) (rest : List ℕ) → Moves walk.at (length rest) (step_of walk rest)
unfolding step_of
step_moves walk rest =
    either walk.at (length rest) (length rest == 0) (Stops Clean) _ (λ _. tt)
    (λ _. either walk.at (length rest) (is_full walk) (refused fault.TooMany) _ (λ _. tt)
    (λ _. either walk.at (length rest) (nat_lt (length rest) 8) (truncated walk) _ (λ _. tt)
    (λ long. let enough : 8 ≤ length rest = grind (arith, nat_tests, long) in
    begun_moves walk (take 8 rest) (length rest) (drop 8 rest) (omega (arith, length-drop 8 rest)))))

pub skips_on : (walk : Walk) (rest : List ℕ) (after : Walk) (more : List ℕ) → step_of walk rest ≡ Skips after more → (walk.at < after.at) × (length more < length rest)
skips_on walk rest after more is = subst (Moves walk.at (length rest)) is (step_moves walk rest)

pub gives_on : (walk : Walk) (rest : List ℕ) (given : NgRecord) (after : Walk) (more : List ℕ) → step_of walk rest ≡ Gives given after more → (walk.at < after.at) × (length more < length rest)
gives_on walk rest given after more is = subst (Moves walk.at (length rest)) is (step_moves walk rest)

-- where a test that would end the capture is made before a block that is skipped, it doesn't hold
not_ended : (test : Bool) (ending : Ending NgFault) (step : Step) (after : Walk) (more : List ℕ) → (if test then Stops ending else step) ≡ Skips after more → (test ≡ false) × (step ≡ Skips after more)
not_ended true ending step after more is = cc
not_ended false ending step after more is = (refl, is)

-- a block is skipped only below the last place
pub skips_near : (walk : Walk) (rest : List ℕ) (after : Walk) (more : List ℕ) → step_of walk rest ≡ Skips after more → walk.at < last_place
unfolding step_of
skips_near walk rest after more is =
    let one = not_ended (length rest == 0) Clean _ after more is in
    let two = not_ended (is_full walk) _ _ after more one.1 in
    grind (arith, nat_tests, two.0)
