-- Where the blocks of the first records end: the shortest beginning of the bytes that holds them.
use Rattle.std.proofs.Common.{◌≡◌, ℕ, zero, suc, ◌+◌, ◌<◌, ◌≤◌, Bool, true, false, List, [], ◌∷◌, ◌++◌, Option, Some, None, Ok}
use Rattle.std.proofs.Common.{Err, length, take, drop, refl, sym, ap, subst, ◌∙◌, append_assoc, length-append, arith}
use Rattle.std.specs.Prelude.{if◌then◌else◌, nat_le, nat_lt, ◌==◌, ⊤}
use Rattle.std.proofs.lemmas.List.{length-drop}
use Rattle.std.proofs.lemmas.Bool.Decides.{nat_tests}
use Rattle.pcap_input.specs.Savefile.{number_at}
use Rattle.pcapng_input.specs.declared.capture.NgRecord.{NgRecord}
use Rattle.pcapng_input.specs.declared.capture.NgFault.TheVariants as fault
use Rattle.pcapng_input.specs.declared.block.Block.{Block}
use Rattle.pcapng_input.specs.declared.content.BlockContent.TheVariants as content
use Rattle.pcapng_input.specs.declared.walk.Walk.{Walk}
use Rattle.pcapng_input.specs.declared.capture.NgFault.{NgFault}
use Rattle.pcap_input.specs.Cut.{Ending, Clean, Refused, Cut, clean_with, with_first}
use Rattle.pcapng_input.specs.Blocks.{section_type, Step, Stops, Skips, Gives, refused, bad_block, inner_length, is_sized}
use Rattle.pcapng_input.specs.Blocks.{order_of, first_walk, is_full, new_section, content_of, section_of, given_by, closing}
use Rattle.pcapng_input.specs.Blocks.{fronted, known, section_block, section_begun, step_of, opening, Next, Ends, Follows}
use Rattle.pcapng_input.specs.Blocks.{next_of, records_left}
use Rattle.pcapng_input.proofs.Blocks.Begins.{begun_section, fronted-err, fronted-ok, number_front, step_cut, step_nothing}
use Rattle.pcapng_input.proofs.Captures.Nexts.{next_of-stops}
use Rattle.pcapng_input.proofs.Captures.Records.{records_left-ends, records_left-follows}
use Rattle.pcapng_input.proofs.Captures.Beginnings.{follows_parts}

-- what a capture of blocks is cut to: these records, and a clean ending
abbrev pub clean_cut : List NgRecord → Cut NgRecord NgFault
clean_cut records = clean_with records

-- the records of what is left
abbrev pub records_at : Walk → List ℕ → List NgRecord
records_at walk rest = (records_left walk rest).records

-- the bytes of the first `count` records; no shorter beginning holds as many
pub record Front (walk : Walk) (count : ℕ) (rest : List ℕ) : Type 0 where
  pub own : List ℕ
  pub left : List ℕ
  pub joined : rest ≡ own ++ left
  pub exact : records_left walk own ≡ clean_cut (take count (records_at walk rest))
  pub shortest : (xs ys : List ℕ) → rest ≡ xs ++ ys → count ≤ length (records_at walk xs) → length own ≤ length xs

-- where nothing comes next, there is no record
none_at : (walk : Walk) (count : ℕ) (rest : List ℕ) (ending : Ending NgFault) → next_of walk rest ≡ Ends ending → suc count ≤ length (records_at walk rest) → ⊥
none_at walk count rest ending is enough =
    let none = ap (λ (cut : Cut NgRecord NgFault). length cut.records) (records_left-ends walk rest ending is) in
    omega (arith, none, enough)

shortest_by : (walk : Walk) (count : ℕ) (rest own : List ℕ) (first : NgRecord) (then_walk : Walk) (more : List ℕ)
    → next_of walk rest ≡ Follows first then_walk more → rest ≡ own ++ more → (after : Front then_walk count more)
    → (xs ys : List ℕ) → rest ≡ xs ++ ys → suc count ≤ length (records_at walk xs)
    → (next : Next) → next_of walk xs ≡ next → length (own ++ after.own) ≤ length xs
shortest_by walk count rest own first then_walk more holds joined after xs ys split enough (Ends ending) is =
    absurd (none_at walk count xs ending is enough)
shortest_by walk count rest own first then_walk more holds joined after xs ys split enough (Follows other other_walk later) is =
    let parts = follows_parts walk xs other other_walk later is in
    let whole : rest ≡ parts.own ++ (later ++ ys) = split ∙ ap (λ (zs : List ℕ). zs ++ ys) parts.joined ∙ append_assoc parts.own later ys in
    let same : Follows first then_walk more ≡ Follows other other_walk (later ++ ys) = sym holds ∙ ap (next_of walk) whole ∙ parts.goes (later ++ ys) in
    let walk_is : then_walk ≡ other_walk = cc in
    let more_is : more ≡ later ++ ys = cc in
    let counted = ap (λ (cut : Cut NgRecord NgFault). length cut.records) (records_left-follows walk xs other other_walk later is) in
    let placed = ap (λ (w : Walk). length (records_at w later)) walk_is in
    let few = after.shortest later ys more_is (omega (arith, enough, counted, placed)) in
    let a = ap length joined ∙ length-append own more in
    let b = ap length whole ∙ length-append parts.own (later ++ ys) in
    let c = ap length more_is in
    let d = length-append own after.own in
    let e = ap length parts.joined ∙ length-append parts.own later in
    omega (arith, few, a, b, c, d, e)

front_by : (walk : Walk) (count : ℕ) (rest : List ℕ)
    → ((w : Walk) (more : List ℕ) → count ≤ length (records_at w more) → Front w count more)
    → suc count ≤ length (records_at walk rest)
    → (next : Next) → next_of walk rest ≡ next → Front walk (suc count) rest
front_by walk count rest on enough (Ends ending) is = absurd (none_at walk count rest ending is enough)
front_by walk count rest on enough (Follows first then_walk more) is =
    let all = ap (λ (cut : Cut NgRecord NgFault). cut.records) (records_left-follows walk rest first then_walk more is) in
    let parts = follows_parts walk rest first then_walk more is in
    let after = on then_walk more (omega (arith, enough, ap length all)) in
    record {
      own = parts.own ++ after.own;
      left = after.left;
      joined = parts.joined ∙ ap (λ (xs : List ℕ). parts.own ++ xs) after.joined ∙ sym (append_assoc parts.own after.own after.left);
      exact = records_left-follows walk (parts.own ++ after.own) first then_walk after.own (parts.goes after.own)
          ∙ ap (with_first first) after.exact
          ∙ ap (λ (records : List NgRecord). clean_cut (take (suc count) records)) (sym all);
      shortest = λ xs ys split few. shortest_by walk count rest parts.own first then_walk more is parts.joined after xs ys split few _ refl;
    }

pub front : (walk : Walk) (count : ℕ) (rest : List ℕ) → count ≤ length (records_at walk rest) → Front walk count rest
front walk zero rest enough = record {
  own = [];
  left = rest;
  joined = refl;
  exact = records_left-ends walk [] Clean (next_of-stops walk [] Clean (step_nothing walk));
  shortest = λ xs ys split few. omega arith;
}
front walk (suc count) rest enough =
    front_by walk count rest (λ w more few. front w count more few) enough (next_of walk rest) refl

-- ---- the section header that begins them

-- no record
abbrev IsNoRecord : Step → Type 0
IsNoRecord (Stops ending) = ⊤
IsNoRecord (Skips walk more) = ⊤
IsNoRecord (Gives given walk more) = ⊥

either : (test : Bool) (x y : Step) → IsNoRecord x → IsNoRecord y → IsNoRecord (if test then x else y)
either true x y one other = one
either false x y one other = other

closing_none : (walk : Walk) (block : Block) (after : List ℕ) → IsNoRecord (closing walk block content.Skipped after)
unfolding closing given_by
closing_none walk block after =
    either (nat_lt (length after) (inner_length block + 4)) _ _ tt
    (either (number_at walk.section.swapped 0 4 (drop (inner_length block) after) == block.total) _ _ tt tt)

section_content : (walk : Walk) (swapped : Bool) (first front : List ℕ) (test : Bool) → (number_at walk.section.swapped 0 2 front == 1) ≡ test
    → content_of walk (section_block swapped first) front ≡ (if test then Ok content.Skipped else Err (bad_block walk))
unfolding content_of section_of
section_content walk swapped first front test is = ap (λ (t : Bool). if t then Ok content.Skipped else Err (bad_block walk)) is

fronted_none : (walk : Walk) (swapped : Bool) (first front after : List ℕ) (test : Bool) → (number_at walk.section.swapped 0 2 front == 1) ≡ test
    → IsNoRecord (fronted walk (section_block swapped first) front after)
fronted_none walk swapped first front after true is =
    subst IsNoRecord (sym (fronted-ok walk (section_block swapped first) front content.Skipped (section_content walk swapped first front true is) after))
    (closing_none walk (section_block swapped first) after)
fronted_none walk swapped first front after false is =
    subst IsNoRecord (sym (fronted-err walk (section_block swapped first) front (bad_block walk) (section_content walk swapped first front false is) after)) tt

known_none : (walk : Walk) (swapped : Bool) (first body : List ℕ) → IsNoRecord (known walk (section_block swapped first) body)
unfolding known
known_none walk swapped first body =
    either (is_sized (section_block swapped first)) _ _
    (either (nat_lt (length body) 12) _ _ tt (fronted_none walk swapped first (take 12 body) (drop 12 body) _ refl)) tt

section_none_by : (walk : Walk) (first body : List ℕ) (order : Option Bool) → order_of (take 4 body) ≡ order → IsNoRecord (section_begun walk first body)
unfolding section_begun
section_none_by walk first body None is = either (nat_lt (length body) 4) _ _ tt (rw is tt)
section_none_by walk first body (Some swapped) is = either (nat_lt (length body) 4) _ _ tt (rw is (known_none (new_section walk swapped) swapped first (drop 4 body)))

-- a section header begins no record
step_none : (walk : Walk) (bytes : List ℕ) → number_at false 0 4 bytes ≡ section_type → IsNoRecord (step_of walk bytes)
unfolding step_of
step_none walk bytes is =
    either (length bytes == 0) _ _ tt
    (either (is_full walk) _ _ tt
    (either (nat_lt (length bytes) 8) _ _ tt
    (subst IsNoRecord (sym (begun_section walk (take 8 bytes) (number_front 8 bytes (omega arith) ∙ is) (drop 8 bytes)))
    (section_none_by walk (take 8 bytes) (drop 8 bytes) _ refl))))

-- what is skipped passes a test that ends the capture
passed : (test : Bool) (ending : Ending NgFault) (step : Step) (after : Walk) (more : List ℕ)
    → (if test then Stops ending else step) ≡ Skips after more → (test ≡ false) × (step ≡ Skips after more)
passed true ending step after more is = cc
passed false ending step after more is = (refl, is)

-- fewer than four bytes hold no record
few_by : (bytes : List ℕ) (fewer : Bool) → nat_lt (length bytes) 4 ≡ fewer → 0 < length (records_at first_walk bytes) → 4 ≤ length bytes
few_by [] fewer is some = absurd (none_at first_walk 0 [] Clean (next_of-stops first_walk [] Clean (step_nothing first_walk)) (omega (arith, some)))
few_by (byte ∷ rest) true is some =
    let short : length (byte ∷ rest) < 8 = grind (arith, nat_tests, is) in
    absurd (none_at first_walk 0 (byte ∷ rest) (Refused (fault.Truncated 0))
    (next_of-stops first_walk (byte ∷ rest) _ (step_cut first_walk (byte ∷ rest) (omega arith) short refl))
    (omega (arith, some)))
few_by (byte ∷ rest) false is some = grind (arith, nat_tests, is)

pub four_at_least : (bytes : List ℕ) → 0 < length (records_at first_walk bytes) → 4 ≤ length bytes
four_at_least bytes some = few_by bytes _ refl some

-- a byte-order magic is told
record IsBegun (body : List ℕ) : Type 0 where
  long : 4 ≤ length body
  swapped : Bool
  order : order_of (take 4 body) ≡ Some swapped

section_magic : (walk : Walk) (first body : List ℕ) (after : Walk) (more : List ℕ) (order : Option Bool) → order_of (take 4 body) ≡ order
    → section_begun walk first body ≡ Skips after more → IsBegun body
unfolding section_begun
section_magic walk first body after more None is skips =
    let one = passed (nat_lt (length body) 4) _ _ after more skips in
    let none : refused (bad_block walk) ≡ Skips after more = rw is at one.1 in
    cc
section_magic walk first body after more (Some swapped) is skips =
    let one = passed (nat_lt (length body) 4) _ _ after more skips in
    record { long = grind (arith, nat_tests, one.0); swapped = swapped; order = is }

step_magic : (bytes : List ℕ) (after : Walk) (more : List ℕ) → number_at false 0 4 bytes ≡ section_type → step_of first_walk bytes ≡ Skips after more
    → IsBegun (drop 8 bytes)
unfolding step_of
step_magic bytes after more is skips =
    let one = passed (length bytes == 0) _ _ after more skips in
    let two = passed (nat_lt (length bytes) 8) (Refused (fault.Truncated 0)) _ after more one.1 in
    let own = number_front 8 bytes (omega arith) ∙ is in
    section_magic first_walk (take 8 bytes) (drop 8 bytes) after more _ refl (sym (begun_section first_walk (take 8 bytes) own (drop 8 bytes)) ∙ two.1)

-- the opening of a file that begins with a section header is its first step
opening_is : (bytes : List ℕ) → number_at false 0 4 bytes ≡ section_type → IsBegun (drop 8 bytes) → opening bytes ≡ step_of first_walk bytes
unfolding opening
opening_is bytes is begun_here =
    let long : 12 ≤ length bytes = omega (arith, begun_here.long, length-drop 8 bytes) in
    let one : nat_le 4 (length bytes) ≡ true = grind (arith, nat_tests, long) in
    let two : (number_at false 0 4 bytes == section_type) ≡ true = grind (arith, nat_tests, is) in
    let three : nat_lt (length bytes) 12 ≡ false = grind (arith, nat_tests, long) in
    rw (one, two, three, begun_here.order) refl

-- where a section header begins bytes that hold a record, it is whole, and skipped
pub record BeginsWhole (bytes : List ℕ) : Type 0 where
  pub after : Walk
  pub more : List ℕ
  pub is : opening bytes ≡ Skips after more

whole_by : (bytes : List ℕ) (step : Step) → step_of first_walk bytes ≡ step → number_at false 0 4 bytes ≡ section_type → 0 < length (records_at first_walk bytes) → BeginsWhole bytes
whole_by bytes (Stops ending) is begins some =
    absurd (none_at first_walk 0 bytes ending (next_of-stops first_walk bytes ending is) (omega (arith, some)))
whole_by bytes (Gives given after more) is begins some = absurd (subst IsNoRecord is (step_none first_walk bytes begins))
whole_by bytes (Skips after more) is begins some =
    record { after = after; more = more; is = opening_is bytes begins (step_magic bytes after more begins is) ∙ is }

pub begins_whole : (bytes : List ℕ) → number_at false 0 4 bytes ≡ section_type → 0 < length (records_at first_walk bytes) → BeginsWhole bytes
begins_whole bytes begins some = whole_by bytes _ refl begins some
