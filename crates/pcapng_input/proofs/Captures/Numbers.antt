-- How many records were given: a block that is skipped leaves their number, and a record adds one to it.
use Rattle.std.proofs.Common.{◌≡◌, ℕ, zero, suc, ◌+◌, ◌<◌, ◌≤◌, ◌∙◌, Bool, true, false, List, length, take, drop, Option, Some, None, Result, Ok, Err, refl, sym, subst, arith}
use Rattle.std.specs.Prelude.{if◌then◌else◌, nat_lt, nat_le, ◌==◌, ◌&&◌, ⊤}
use Rattle.std.proofs.lemmas.List.{length-drop}
use Rattle.std.proofs.lemmas.Bool.Decides.{nat_tests}
use Rattle.pcap_input.specs.Savefile.{number_at}
use Rattle.pcapng_input.specs.declared.capture.NgFault.{NgFault}
use Rattle.pcapng_input.specs.declared.capture.NgRecord.{NgRecord}
use Rattle.pcapng_input.specs.declared.capture.NgFault.TheVariants as fault
use Rattle.pcapng_input.specs.declared.block.Block.{Block}
use Rattle.pcapng_input.specs.declared.content.BlockContent.{BlockContent}
use Rattle.pcapng_input.specs.declared.content.BlockContent.TheVariants as content
use Rattle.pcapng_input.specs.declared.resolution.Resolution.{Resolution}
use Rattle.pcapng_input.specs.declared.walk.Walk.{Walk}
use Rattle.pcapng_input.specs.Options.{resolution_told}
use Rattle.pcap_input.specs.Savefile.{most_records}
use Rattle.pcap_input.specs.Cut.{Ending, Clean, Refused}
use Rattle.pcapng_input.specs.Blocks.{section_type, Step, Stops, Skips, Gives, refused, truncated, bad_block, front_length}
use Rattle.pcapng_input.specs.Blocks.{is_sized, inner_length, order_of, first_walk, new_section, content_of, given_by, closing}
use Rattle.pcapng_input.specs.Blocks.{fronted, known, section_block, other_block, section_begun, begun, is_full, step_of, opening}
use Rattle.pcapng_input.specs.Blocks.{Ends, Follows, next_along, next_of}
use Rattle.pcapng_input.proofs.Blocks.Begins.{fronted-err, fronted-ok, begun_section, number_front}

-- the number of records after a step from this number
abbrev pub Counts : ℕ → Step → Type 0
Counts number (Stops ending) = ⊤
Counts number (Skips walk more) = walk.number ≡ number
Counts number (Gives given walk more) = walk.number ≡ number + 1

-- a choice of two where both count so
either : (number : ℕ) (test : Bool) (x y : Step) → Counts number x → Counts number y → Counts number (if test then x else y)
either number true x y one other = one
either number false x y one other = other

interface_counts : (walk : Walk) (block : Block) (link snaplen : ℕ) (inner more : List ℕ) (told : Option Resolution)
    → resolution_told walk.section.swapped inner ≡ told
    → Counts walk.number (given_by walk block (content.Interface link snaplen) inner more)
unfolding given_by
interface_counts walk block link snaplen inner more None is = rw (given_by, is) tt
interface_counts walk block link snaplen inner more (Some resolution) is = rw (given_by, is) refl

given_counts : (walk : Walk) (block : Block) (told : BlockContent) (inner more : List ℕ)
    → Counts walk.number (given_by walk block told inner more)
unfolding given_by
given_counts walk block content.Skipped inner more = refl
given_counts walk block (content.Interface link snaplen) inner more = interface_counts walk block link snaplen inner more _ refl
given_counts walk block (content.Packet packet) inner more = refl

closing_counts : (walk : Walk) (block : Block) (told : BlockContent) (after : List ℕ)
    → Counts walk.number (closing walk block told after)
unfolding closing
closing_counts walk block told after =
    either walk.number (nat_lt (length after) (inner_length block + 4)) (truncated walk) _ tt
    (either walk.number (number_at walk.section.swapped 0 4 (drop (inner_length block) after) == block.total)
    (given_by walk block told (take (inner_length block) after) (drop (inner_length block + 4) after))
    (refused (bad_block walk))
    (given_counts walk block told (take (inner_length block) after) (drop (inner_length block + 4) after)) tt)

fronted_by : (walk : Walk) (block : Block) (front after : List ℕ) (told : Result BlockContent NgFault)
    → content_of walk block front ≡ told → Counts walk.number (fronted walk block front after)
fronted_by walk block front after (Err why) is = subst (Counts walk.number) (sym (fronted-err walk block front why is after)) tt
fronted_by walk block front after (Ok told) is =
    subst (Counts walk.number) (sym (fronted-ok walk block front told is after)) (closing_counts walk block told after)

known_counts : (walk : Walk) (block : Block) (body : List ℕ) → Counts walk.number (known walk block body)
unfolding known
known_counts walk block body =
    either walk.number (is_sized block) _ (refused (bad_block walk))
    (either walk.number (nat_lt (length body) (front_length block.kind)) (truncated walk) _ tt
    (fronted_by walk block (take (front_length block.kind) body) (drop (front_length block.kind) body) _ refl)) tt

section_by : (walk : Walk) (first body : List ℕ) (order : Option Bool) → order_of (take 4 body) ≡ order
    → Counts walk.number (section_begun walk first body)
unfolding section_begun
section_by walk first body None is = either walk.number (nat_lt (length body) 4) (truncated walk) _ tt (rw is tt)
section_by walk first body (Some swapped) is =
    either walk.number (nat_lt (length body) 4) (truncated walk) _ tt
    (rw is (known_counts (new_section walk swapped) (section_block swapped first) (drop 4 body)))

begun_counts : (walk : Walk) (first body : List ℕ) → Counts walk.number (begun walk first body)
unfolding begun
begun_counts walk first body =
    either walk.number (number_at false 0 4 first == section_type) (section_begun walk first body) _
    (section_by walk first body _ refl) (known_counts walk (other_block walk.section.swapped first) body)

step_counts : (walk : Walk) (rest : List ℕ) → Counts walk.number (step_of walk rest)
unfolding step_of
step_counts walk rest =
    either walk.number (length rest == 0) (Stops Clean) _ tt
    (either walk.number (is_full walk) (refused fault.TooMany) _ tt
    (either walk.number (nat_lt (length rest) 8) (truncated walk) _ tt (begun_counts walk (take 8 rest) (drop 8 rest))))

-- where a test that would end the capture is made before a record, it doesn't hold
not_ended : (test : Bool) (ending : Ending NgFault) (step : Step) (given : NgRecord) (after : Walk) (more : List ℕ)
    → (if test then Stops ending else step) ≡ Gives given after more → (test ≡ false) × (step ≡ Gives given after more)
not_ended true ending step given after more is = cc
not_ended false ending step given after more is = (refl, is)

-- a record is given only where fewer than the most were
gives_few : (walk : Walk) (rest : List ℕ) (given : NgRecord) (after : Walk) (more : List ℕ)
    → step_of walk rest ≡ Gives given after more → walk.number < most_records
unfolding step_of
gives_few walk rest given after more is =
    let one = not_ended (length rest == 0) Clean _ given after more is in
    let two = not_ended (is_full walk) _ _ given after more one.1 in
    grind (arith, nat_tests, two.0)

-- a record that is given adds one to the number, which was below the most
pub record IsCounted (walk after : Walk) : Type 0 where
  pub one : after.number ≡ walk.number + 1
  pub few : walk.number < most_records

-- a record adds one to a number, where it adds one to an equal number of another walk
counted_from : (walk other after : Walk) → other.number ≡ walk.number → IsCounted other after → IsCounted walk after
counted_from walk other after same counted = record {
  one = counted.one ∙ ap_suc other.number walk.number same;
  few = subst (λ (n : ℕ). n < most_records) same counted.few;
}
  where
    ap_suc : (a b : ℕ) → a ≡ b → a + 1 ≡ b + 1
    ap_suc a b is = omega (arith, is)

counted_by : (most : ℕ) (walk : Walk) (rest : List ℕ) (given : NgRecord) (after : Walk) (more : List ℕ) (step : Step)
    → step_of walk rest ≡ step
    → ((w : Walk) (xs : List ℕ) → next_along most w xs ≡ Follows given after more → IsCounted w after)
    → next_along (suc most) walk rest ≡ Follows given after more → IsCounted walk after
unfolding next_along
counted_by most walk rest given after more (Stops ending) is on holds =
    let ends : Ends ending ≡ Follows given after more = rw (next_along, is) at holds in
    cc
counted_by most walk rest given after more (Skips w xs) is on holds =
    let next : next_along most w xs ≡ Follows given after more = rw (next_along, is) at holds in
    let same : w.number ≡ walk.number = subst (Counts walk.number) is (step_counts walk rest) in
    counted_from walk w after same (on w xs next)
counted_by most walk rest given after more (Gives first w xs) is on holds =
    let found : Follows first w xs ≡ Follows given after more = rw (next_along, is) at holds in
    let walk_is : w ≡ after = cc in
    let counted : w.number ≡ walk.number + 1 = subst (Counts walk.number) is (step_counts walk rest) in
    subst (λ (v : Walk). IsCounted walk v) walk_is (record { one = counted; few = gives_few walk rest first w xs is })

counted_along : (most : ℕ) (walk : Walk) (rest : List ℕ) (given : NgRecord) (after : Walk) (more : List ℕ)
    → next_along most walk rest ≡ Follows given after more → IsCounted walk after
unfolding next_along
counted_along zero walk rest given after more is = cc
counted_along (suc most) walk rest given after more is =
    counted_by most walk rest given after more (step_of walk rest) refl
    (λ w xs next. counted_along most w xs given after more next) is

pub follows_counted : (walk : Walk) (rest : List ℕ) (given : NgRecord) (after : Walk) (more : List ℕ)
    → next_of walk rest ≡ Follows given after more → IsCounted walk after
unfolding next_of
follows_counted walk rest given after more is = counted_along (length rest + 1) walk rest given after more is

-- ---- the first block

-- where the first block is skipped, a section header begins the file, and it is the block that is there
pub record IsSection (bytes : List ℕ) (after : Walk) (more : List ℕ) : Type 0 where
  pub begins : number_at false 0 4 bytes ≡ section_type
  pub step : step_of first_walk bytes ≡ Skips after more
  pub long : 28 ≤ length bytes
  pub none : after.number ≡ 0

-- what a test lets through that is skipped
let_through : (test : Bool) (step : Step) (why : NgFault) (after : Walk) (more : List ℕ)
    → (if test then step else refused why) ≡ Skips after more → (test ≡ true) × (step ≡ Skips after more)
let_through true step why after more is = (refl, is)
let_through false step why after more is = cc

not_cut : (test : Bool) (ending : Ending NgFault) (step : Step) (after : Walk) (more : List ℕ)
    → (if test then Stops ending else step) ≡ Skips after more → (test ≡ false) × (step ≡ Skips after more)
not_cut true ending step after more is = cc
not_cut false ending step after more is = (refl, is)

-- a section header that is whole has 28 bytes at least
fronted_long : (walk : Walk) (block : Block) (front body : List ℕ) (after : Walk) (more : List ℕ) (told : Result BlockContent NgFault)
    → content_of walk block front ≡ told → fronted walk block front body ≡ Skips after more → 4 ≤ length body
unfolding closing
fronted_long walk block front body after more (Err why) is skips =
    let none : refused why ≡ Skips after more = sym (fronted-err walk block front why is body) ∙ skips in
    cc
fronted_long walk block front body after more (Ok told) is skips =
    let closed : closing walk block told body ≡ Skips after more = sym (fronted-ok walk block front told is body) ∙ skips in
    let one = not_cut (nat_lt (length body) (inner_length block + 4)) (Refused (fault.Truncated walk.at)) _ after more closed in
    grind (arith, nat_tests, one.0)

known_long : (walk : Walk) (swapped : Bool) (first body : List ℕ) (after : Walk) (more : List ℕ)
    → known walk (section_block swapped first) body ≡ Skips after more → 16 ≤ length body
unfolding known
known_long walk swapped first body after more is =
    let block = section_block swapped first in
    let one = let_through (is_sized block) _ (bad_block walk) after more is in
    let two = not_cut (nat_lt (length body) 12) _ _ after more one.1 in
    let enough : 12 ≤ length body = grind (arith, nat_tests, two.0) in
    omega (arith, enough, length-drop 12 body, fronted_long walk block (take 12 body) (drop 12 body) after more _ refl two.1)

section_long : (walk : Walk) (first body : List ℕ) (after : Walk) (more : List ℕ) (order : Option Bool)
    → order_of (take 4 body) ≡ order → section_begun walk first body ≡ Skips after more → 20 ≤ length body
unfolding section_begun
section_long walk first body after more None is skips =
    let one = not_cut (nat_lt (length body) 4) _ _ after more skips in
    let none : refused (bad_block walk) ≡ Skips after more = rw is at one.1 in
    cc
section_long walk first body after more (Some swapped) is skips =
    let one = not_cut (nat_lt (length body) 4) _ _ after more skips in
    let on : known (new_section walk swapped) (section_block swapped first) (drop 4 body) ≡ Skips after more = rw is at one.1 in
    omega (arith, known_long (new_section walk swapped) swapped first (drop 4 body) after more on, length-drop 4 body)

begun_long : (walk : Walk) (bytes : List ℕ) (after : Walk) (more : List ℕ) → number_at false 0 4 bytes ≡ section_type
    → begun walk (take 8 bytes) (drop 8 bytes) ≡ Skips after more → 28 ≤ length bytes
begun_long walk bytes after more is skips =
    let own : number_at false 0 4 (take 8 bytes) ≡ section_type = number_front 8 bytes (omega arith) ∙ is in
    let section : section_begun walk (take 8 bytes) (drop 8 bytes) ≡ Skips after more =
    sym (begun_section walk (take 8 bytes) own (drop 8 bytes)) ∙ skips in
    omega (arith, length-drop 8 bytes, section_long walk (take 8 bytes) (drop 8 bytes) after more _ refl section)

step_long : (bytes : List ℕ) (after : Walk) (more : List ℕ) → number_at false 0 4 bytes ≡ section_type
    → step_of first_walk bytes ≡ Skips after more → 28 ≤ length bytes
unfolding step_of
step_long bytes after more is skips =
    let one = not_cut (length bytes == 0) _ _ after more skips in
    let two = not_cut (nat_lt (length bytes) 8) (Refused (fault.Truncated 0)) _ after more one.1 in
    begun_long first_walk bytes after more is two.1

-- a byte-order magic was told
opened_step : (bytes : List ℕ) (after : Walk) (more : List ℕ) (order : Option Bool) → order_of (take 4 (drop 8 bytes)) ≡ order
    → elim (order_of (take 4 (drop 8 bytes))) [ None ↦ refused fault.NotPcapng | Some swapped ↦ step_of first_walk bytes ]
    ≡ Skips after more
    → step_of first_walk bytes ≡ Skips after more
opened_step bytes after more None is skips = let none : refused fault.NotPcapng ≡ Skips after more = rw is at skips in cc
opened_step bytes after more (Some swapped) is skips = rw is at skips

pub opening_section : (bytes : List ℕ) (after : Walk) (more : List ℕ) → opening bytes ≡ Skips after more
    → IsSection bytes after more
unfolding opening
opening_section bytes after more is =
    let is_section = nat_le 4 (length bytes) && (number_at false 0 4 bytes == section_type) in
    let one = let_through is_section _ fault.NotPcapng after more is in
    let begins : number_at false 0 4 bytes ≡ section_type = grind (arith, nat_tests, one.0) in
    let two = not_cut (nat_lt (length bytes) 12) _ _ after more one.1 in
    let step = opened_step bytes after more _ refl two.1 in
    record {
      begins = begins;
      step = step;
      long = step_long bytes after more begins step;
      none = subst (Counts 0) step (step_counts first_walk bytes);
    }
