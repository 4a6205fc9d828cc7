-- A beginning of the bytes has a beginning of the records: what a block gives depends on its own bytes.
use Rattle.std.proofs.Common.{◌≡◌, ℕ, zero, suc, ◌+◌, ◌<◌, ◌≤◌, Bool, true, false, List, [], ◌∷◌, ◌++◌, Option, Some, None}
use Rattle.std.proofs.Common.{Result, Ok, Err, length, take, drop, refl, sym, ap, subst, append_assoc, ◌∙◌, arith}
use Rattle.std.specs.Prelude.{nat_lt, ◌==◌, ⊤}
use Rattle.std.proofs.lemmas.List.{length-take-le, length-drop, take-append-drop}
use Rattle.std.proofs.lemmas.Bool.Decides.{nat_tests}
use Rattle.pcap_input.specs.Savefile.{number_at}
use Rattle.pcapng_input.specs.declared.capture.NgRecord.{NgRecord}
use Rattle.pcapng_input.specs.declared.capture.NgFault.{NgFault}
use Rattle.pcapng_input.specs.declared.block.Block.{Block}
use Rattle.pcapng_input.specs.declared.content.BlockContent.{BlockContent}
use Rattle.pcapng_input.specs.declared.content.BlockContent.TheVariants as content
use Rattle.pcapng_input.specs.declared.resolution.Resolution.{Resolution}
use Rattle.pcapng_input.specs.declared.walk.Walk.{Walk}
use Rattle.pcapng_input.specs.Options.{resolution_told}
use Rattle.pcap_input.specs.Cut.{Ending, Clean}
use Rattle.pcapng_input.specs.Blocks.{section_type, Step, Stops, Skips, Gives, front_length, is_sized, inner_length, order_of}
use Rattle.pcapng_input.specs.Blocks.{new_section, content_of, given_by, closing, fronted, known, section_block, other_block}
use Rattle.pcapng_input.specs.Blocks.{section_begun, begun, is_full, step_of, Next, Ends, Follows, next_along, next_of}
use Rattle.pcapng_input.specs.Blocks.{records_left}
use Rattle.pcapng_input.proofs.Blocks.Stages.{IsAfter}
use Rattle.pcapng_input.proofs.Blocks.Closing.{closing_cuts, closing_whole, given-interface, given-no_resolution}
use Rattle.pcapng_input.proofs.Blocks.Begins.{fronted-err, fronted-ok, known_bad, known_cuts, known_fronted, section_cuts}
use Rattle.pcapng_input.proofs.Blocks.Begins.{section_none, section_known, begun_section, begun_other, step_nothing, step_full}
use Rattle.pcapng_input.proofs.Blocks.Begins.{step_cut, step_begun}
use Rattle.pcapng_input.proofs.Captures.Nexts.{next_of-skips, next_of-gives}
use Rattle.pcapng_input.proofs.Captures.Records.{next_of-shrinks, records_left-ends, records_left-follows}

-- what a stage gives but an ending is that of these own bytes, whatever follows them
abbrev IsLocal : (List ℕ → Step) → List ℕ → Step → Type 0
IsLocal stage rest (Stops ending) = ⊤
IsLocal stage rest (Skips walk more) = (own : List ℕ) × ((rest ≡ own ++ more) × ((m : List ℕ) → stage (own ++ m) ≡ Skips walk m))
IsLocal stage rest (Gives given walk more) = (own : List ℕ) × ((rest ≡ own ++ more) × ((m : List ℕ) → stage (own ++ m) ≡ Gives given walk m))

local_by : (stage next : List ℕ → Step) (front rest whole : List ℕ) (step : Step) → IsAfter stage front next → whole ≡ front ++ rest → IsLocal next rest step → IsLocal stage whole step
local_by stage next front rest whole (Stops ending) is joined local = tt
local_by stage next front rest whole (Skips walk more) is joined local =
    (front ++ local.0, (joined ∙ ap (λ xs. front ++ xs) local.1.0 ∙ sym (append_assoc front local.0 more), λ m. ap stage (append_assoc front local.0 m) ∙ is (local.0 ++ m) ∙ local.1.1 m))
local_by stage next front rest whole (Gives given walk more) is joined local =
    (front ++ local.0, (joined ∙ ap (λ xs. front ++ xs) local.1.0 ∙ sym (append_assoc front local.0 more), λ m. ap stage (append_assoc front local.0 m) ∙ is (local.0 ++ m) ∙ local.1.1 m))

-- a stage after bytes
local_after : (stage next : List ℕ → Step) (front rest whole : List ℕ) → IsAfter stage front next → whole ≡ front ++ rest → IsLocal next rest (next rest) → IsLocal stage whole (stage whole)
local_after stage next front rest whole is joined local =
    subst (IsLocal stage whole) (sym (ap stage joined ∙ is rest)) (local_by stage next front rest whole (next rest) is joined local)

local_ends : (stage : List ℕ → Step) (whole : List ℕ) (ending : Ending NgFault) → stage whole ≡ Stops ending → IsLocal stage whole (stage whole)
local_ends stage whole ending is = subst (IsLocal stage whole) (sym is) tt

-- where a stage gives this after its own bytes, whatever follows
local_skips : (stage : List ℕ → Step) (walk : Walk) (own more whole : List ℕ) → whole ≡ own ++ more → ((m : List ℕ) → stage (own ++ m) ≡ Skips walk m) → IsLocal stage whole (stage whole)
local_skips stage walk own more whole joined is = subst (IsLocal stage whole) (sym (ap stage joined ∙ is more)) (own, (joined, is))

local_gives : (stage : List ℕ → Step) (given : NgRecord) (walk : Walk) (own more whole : List ℕ)
    → whole ≡ own ++ more
    → ((m : List ℕ) → stage (own ++ m) ≡ Gives given walk m)
    → IsLocal stage whole (stage whole)
local_gives stage given walk own more whole joined is = subst (IsLocal stage whole) (sym (ap stage joined ∙ is more)) (own, (joined, is))

interface_local : (walk : Walk) (block : Block) (link snaplen : ℕ) (stage : List ℕ → Step) (inner own more whole : List ℕ)
    (told : Option Resolution)
    → resolution_told walk.section.swapped inner ≡ told
    → whole ≡ own ++ more
    → ((m : List ℕ) → stage (own ++ m) ≡ given_by walk block (content.Interface link snaplen) inner m)
    → IsLocal stage whole (stage whole)
interface_local walk block link snaplen stage inner own more whole None told joined is =
    local_ends stage whole _ (ap stage joined ∙ is more ∙ given-no_resolution walk block link snaplen inner more told)
interface_local walk block link snaplen stage inner own more whole (Some resolution) told joined is =
    local_skips stage _ own more whole joined (λ m. is m ∙ given-interface walk block link snaplen inner m resolution told)

given_local : (walk : Walk) (block : Block) (told : BlockContent) (stage : List ℕ → Step) (inner own more whole : List ℕ) → whole ≡ own ++ more
    → ((m : List ℕ) → stage (own ++ m) ≡ given_by walk block told inner m) → IsLocal stage whole (stage whole)
unfolding given_by
given_local walk block content.Skipped stage inner own more whole joined is = local_skips stage _ own more whole joined is
given_local walk block (content.Interface link snaplen) stage inner own more whole joined is = interface_local walk block link snaplen stage inner own more whole _ refl joined is
given_local walk block (content.Packet packet) stage inner own more whole joined is = local_gives stage _ _ own more whole joined is

closed_local : (walk : Walk) (block : Block) (told : BlockContent) (inner last more whole : List ℕ) (same : Bool) → length inner ≡ inner_length block → length last ≡ 4
    → (number_at walk.section.swapped 0 4 last == block.total) ≡ same → whole ≡ (inner ++ last) ++ more → IsLocal (closing walk block told) whole (closing walk block told whole)
closed_local walk block told inner last more whole false size four tells joined =
    local_ends (closing walk block told) whole _ (ap (closing walk block told) joined ∙ closing_whole walk block told inner last more false size four tells)
closed_local walk block told inner last more whole true size four tells joined =
    given_local walk block told (closing walk block told) inner (inner ++ last) more whole joined (λ m. closing_whole walk block told inner last m true size four tells)

closing_by : (walk : Walk) (block : Block) (told : BlockContent) (whole : List ℕ) (short : Bool)
    → nat_lt (length whole) (inner_length block + 4) ≡ short
    → IsLocal (closing walk block told) whole (closing walk block told whole)
closing_by walk block told whole true is =
    local_ends (closing walk block told) whole _ (closing_cuts walk block told whole (grind (arith, nat_tests, is)))
closing_by walk block told whole false is =
    let long : inner_length block + 4 ≤ length whole = grind (arith, nat_tests, is) in
    let after = drop (inner_length block) whole in
    let rest_long = length-drop (inner_length block) whole in
    closed_local walk block told (take (inner_length block) whole) (take 4 after) (drop 4 after) whole _
    (length-take-le (inner_length block) whole (omega arith)) (length-take-le 4 after (omega arith)) refl
    (sym (take-append-drop (inner_length block) whole) ∙ ap (λ xs. take (inner_length block) whole ++ xs) (sym (take-append-drop 4 after))
    ∙ sym (append_assoc (take (inner_length block) whole) (take 4 after) (drop 4 after)))

fronted_by : (walk : Walk) (block : Block) (front whole : List ℕ) (told : Result BlockContent NgFault)
    → content_of walk block front ≡ told
    → IsLocal (fronted walk block front) whole (fronted walk block front whole)
fronted_by walk block front whole (Err why) is = local_ends (fronted walk block front) whole _ (fronted-err walk block front why is whole)
fronted_by walk block front whole (Ok told) is =
    local_after (fronted walk block front) (closing walk block told) [] whole whole (fronted-ok walk block front told is) refl (closing_by walk block told whole _ refl)

known_by : (walk : Walk) (block : Block) (whole : List ℕ) (sized short : Bool)
    → is_sized block ≡ sized
    → nat_lt (length whole) (front_length block.kind) ≡ short
    → IsLocal (known walk block) whole (known walk block whole)
known_by walk block whole false short sized_is is = local_ends (known walk block) whole _ (known_bad walk block sized_is whole)
known_by walk block whole true true sized_is is = local_ends (known walk block) whole _ (known_cuts walk block sized_is whole (grind (arith, nat_tests, is)))
known_by walk block whole true false sized_is is =
    let long : front_length block.kind ≤ length whole = grind (arith, nat_tests, is) in
    let front = take (front_length block.kind) whole in
    local_after (known walk block) (fronted walk block front) front (drop (front_length block.kind) whole) whole
    (known_fronted walk block front sized_is (length-take-le (front_length block.kind) whole long)) (sym (take-append-drop (front_length block.kind) whole))
    (fronted_by walk block front (drop (front_length block.kind) whole) _ refl)

known_local : (walk : Walk) (block : Block) (whole : List ℕ) → IsLocal (known walk block) whole (known walk block whole)
known_local walk block whole = known_by walk block whole (is_sized block) (nat_lt (length whole) (front_length block.kind)) refl refl

section_by : (walk : Walk) (first whole : List ℕ) (short : Bool) (order : Option Bool) → nat_lt (length whole) 4 ≡ short → order_of (take 4 whole) ≡ order
    → IsLocal (section_begun walk first) whole (section_begun walk first whole)
section_by walk first whole true order is order_is = local_ends (section_begun walk first) whole _ (section_cuts walk first whole (grind (arith, nat_tests, is)))
section_by walk first whole false None is order_is =
    let long : 4 ≤ length whole = grind (arith, nat_tests, is) in
    let size = length-take-le 4 whole long in
    local_ends (section_begun walk first) whole _
    (ap (section_begun walk first) (sym (take-append-drop 4 whole)) ∙ section_none walk first (take 4 whole) size order_is (drop 4 whole))
section_by walk first whole false (Some swapped) is order_is =
    let long : 4 ≤ length whole = grind (arith, nat_tests, is) in
    let size = length-take-le 4 whole long in
    local_after (section_begun walk first) (known (new_section walk swapped) (section_block swapped first)) (take 4 whole) (drop 4 whole) whole
    (section_known walk first (take 4 whole) swapped size order_is) (sym (take-append-drop 4 whole)) (known_local (new_section walk swapped) (section_block swapped first) (drop 4 whole))

begun_by : (walk : Walk) (first whole : List ℕ) (section : Bool) → (number_at false 0 4 first == section_type) ≡ section → IsLocal (begun walk first) whole (begun walk first whole)
begun_by walk first whole true is =
    let same : number_at false 0 4 first ≡ section_type = grind (arith, nat_tests, is) in
    local_after (begun walk first) (section_begun walk first) [] whole whole (begun_section walk first same) refl (section_by walk first whole _ _ refl refl)
begun_by walk first whole false is =
    let differs : number_at false 0 4 first ≡ section_type → ⊥ = grind (arith, nat_tests, is) in
    local_after (begun walk first) (known walk (other_block walk.section.swapped first)) [] whole whole (begun_other walk first differs) refl
    (known_local walk (other_block walk.section.swapped first) whole)

step_by : (walk : Walk) (whole : List ℕ) (full short : Bool) → 0 < length whole → is_full walk ≡ full → nat_lt (length whole) 8 ≡ short → IsLocal (step_of walk) whole (step_of walk whole)
step_by walk whole true short some full_is is = local_ends (step_of walk) whole _ (step_full walk whole some full_is)
step_by walk whole false true some full_is is = local_ends (step_of walk) whole _ (step_cut walk whole some (grind (arith, nat_tests, is)) full_is)
step_by walk whole false false some full_is is =
    let long : 8 ≤ length whole = grind (arith, nat_tests, is) in
    local_after (step_of walk) (begun walk (take 8 whole)) (take 8 whole) (drop 8 whole) whole
    (step_begun walk (take 8 whole) (length-take-le 8 whole long) full_is) (sym (take-append-drop 8 whole)) (begun_by walk (take 8 whole) (drop 8 whole) _ refl)

step_local : (walk : Walk) (whole : List ℕ) → IsLocal (step_of walk) whole (step_of walk whole)
step_local walk [] = local_ends (step_of walk) [] Clean (step_nothing walk)
step_local walk (byte ∷ rest) = step_by walk (byte ∷ rest) (is_full walk) (nat_lt (length (byte ∷ rest)) 8) (omega arith) refl refl

-- a record that is there: its blocks' own bytes, and that it is there whatever follows them
pub record Parts (walk : Walk) (bytes : List ℕ) (given : NgRecord) (after : Walk) (rest : List ℕ) : Type 0 where
  pub own : List ℕ
  pub joined : bytes ≡ own ++ rest
  pub goes : (more : List ℕ) → next_of walk (own ++ more) ≡ Follows given after more

parts_by : (most : ℕ) (walk : Walk) (whole : List ℕ) (given : NgRecord) (after : Walk) (rest : List ℕ) (step : Step) → step_of walk whole ≡ step
    → ((w : Walk) (xs : List ℕ) → next_along most w xs ≡ Follows given after rest → Parts w xs given after rest)
    → next_along (suc most) walk whole ≡ Follows given after rest → Parts walk whole given after rest
unfolding next_along
parts_by most walk whole given after rest (Stops ending) is on holds =
    let ends : Ends ending ≡ Follows given after rest = rw (next_along, is) at holds in
    cc
parts_by most walk whole given after rest (Skips w xs) is on holds =
    let next : next_along most w xs ≡ Follows given after rest = rw (next_along, is) at holds in
    let local : IsLocal (step_of walk) whole (Skips w xs) = subst (IsLocal (step_of walk) whole) is (step_local walk whole) in
    let parts = on w xs next in
    record {
      own = local.0 ++ parts.own;
      joined = local.1.0 ∙ ap (λ ys. local.0 ++ ys) parts.joined ∙ sym (append_assoc local.0 parts.own rest);
      goes = λ more. ap (next_of walk) (append_assoc local.0 parts.own more)
          ∙ next_of-skips walk (local.0 ++ (parts.own ++ more)) w (parts.own ++ more) (local.1.1 (parts.own ++ more)) ∙ parts.goes more;
    }
parts_by most walk whole given after rest (Gives first w xs) is on holds =
    let same : Follows first w xs ≡ Follows given after rest = rw (next_along, is) at holds in
    let first_is : first ≡ given = cc in
    let walk_is : w ≡ after = cc in
    let left_is : xs ≡ rest = cc in
    let local : IsLocal (step_of walk) whole (Gives first w xs) = subst (IsLocal (step_of walk) whole) is (step_local walk whole) in
    record {
      own = local.0;
      joined = local.1.0 ∙ ap (λ ys. local.0 ++ ys) left_is;
      goes = λ more. next_of-gives walk (local.0 ++ more) first w more (local.1.1 more)
          ∙ ap (λ (r : NgRecord). Follows r w more) first_is ∙ ap (λ (v : Walk). Follows given v more) walk_is;
    }

parts_along : (most : ℕ) (walk : Walk) (whole : List ℕ) (given : NgRecord) (after : Walk) (rest : List ℕ) → next_along most walk whole ≡ Follows given after rest → Parts walk whole given after rest
unfolding next_along
parts_along zero walk whole given after rest is = cc
parts_along (suc most) walk whole given after rest is =
    parts_by most walk whole given after rest (step_of walk whole) refl (λ w xs next. parts_along most w xs given after rest next) is

pub follows_parts : (walk : Walk) (whole : List ℕ) (given : NgRecord) (after : Walk) (rest : List ℕ) → next_of walk whole ≡ Follows given after rest → Parts walk whole given after rest
unfolding next_of
follows_parts walk whole given after rest is = parts_along (length whole + 1) walk whole given after rest is

-- the records of a beginning begin the records
begins_by : (most : ℕ) (walk : Walk) (front back : List ℕ) (next : Next) → next_of walk front ≡ next
    → ((w : Walk) (xs : List ℕ) → length xs < most → (more : List NgRecord) × ((records_left w (xs ++ back)).records ≡ (records_left w xs).records ++ more))
    → length front < suc most → (more : List NgRecord) × ((records_left walk (front ++ back)).records ≡ (records_left walk front).records ++ more)
begins_by most walk front back (Ends ending) is on fits =
    ((records_left walk (front ++ back)).records, sym (ap (λ cut. cut.records ++ (records_left walk (front ++ back)).records) (records_left-ends walk front ending is)))
begins_by most walk front back (Follows given after rest) is on fits =
    let parts = follows_parts walk front given after rest is in
    let less = next_of-shrinks walk front given after rest is in
    let goes = on after rest (omega arith) in
    let holds : next_of walk (front ++ back) ≡ Follows given after (rest ++ back) =
    ap (λ xs. next_of walk (xs ++ back)) parts.joined ∙ ap (next_of walk) (append_assoc parts.own rest back) ∙ parts.goes (rest ++ back) in (
      goes.0,
      ap (λ cut. cut.records) (records_left-follows walk (front ++ back) given after (rest ++ back) holds)
          ∙ ap (λ xs. given ∷ xs) goes.1
          ∙ sym (ap (λ cut. cut.records ++ goes.0) (records_left-follows walk front given after rest is)),
    )

begins : (most : ℕ) (walk : Walk) (front back : List ℕ) → length front < most → (more : List NgRecord) × ((records_left walk (front ++ back)).records ≡ (records_left walk front).records ++ more)
begins zero walk front back fits = absurd (omega arith)
begins (suc most) walk front back fits =
    begins_by most walk front back (next_of walk front) refl (λ w xs less. begins most w xs back less) fits

pub records_left-begins : (walk : Walk) (front back : List ℕ) → (more : List NgRecord) × ((records_left walk (front ++ back)).records ≡ (records_left walk front).records ++ more)
records_left-begins walk front back = begins (length front + 1) walk front back (omega arith)
