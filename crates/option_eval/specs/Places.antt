-- Where the payload options of a rule can lead, and when a payload matches a rule.
--
-- An option leads from a point, a place of the payload with the values extracted so far, to
-- points after it. A payload matches where some way leads from the payload's start through all
-- options of the rule, in their order. How a way is found is not said here.
-- Source: Snort Users Manual 2.9, section 3.5.
-- To try it on: in `abxabc` the content `ab` leads from the start to the places 2 and 5; the content `c`
-- with distance 0 and within 1 leads on from 5 alone, to 6. So the payload matches these two.
use Rattle.std.specs.Prelude.{◌≡◌, ◌≢◌, ℕ, ◌+◌, ◌*◌, ◌≤◌, ℤ, pos, negsuc, ◌+ℤ◌, ◌≤ℤ◌, ◌<ℤ◌, Bool, true, false, List, [], ◌∷◌, length, drop, Option, Some, None, IfSome, MatchBool, option_map, unwrap_or, bit_and, slice_set, if◌then◌else◌}
use Rattle.memchr.specs.Find.{OccursAt}
use Rattle.edge_io.specs.declared.pattern.PatternFlags.{PatternFlags}
use Rattle.edge_io.specs.declared.pattern.Span.{Span}
use Rattle.edge_io.specs.Matching.{folded}
use Rattle.rule_types.specs.declared.option.Cmp.{Cmp}
use Rattle.rule_types.specs.declared.option.Cmp.TheVariants as cmp
use Rattle.rule_types.specs.declared.option.Content.{Content}
use Rattle.rule_types.specs.declared.option.FastMode.{FastMode}
use Rattle.rule_types.specs.declared.option.FastMode.TheVariants as fast
use Rattle.rule_types.specs.declared.option.Fetch.{Fetch}
use Rattle.rule_types.specs.declared.option.Num.{Num}
use Rattle.rule_types.specs.declared.option.Opt.{Opt}
use Rattle.rule_types.specs.declared.option.Opt.TheVariants as opt
use Rattle.rule_types.specs.declared.rule.Rule.{Rule}
use Rattle.option_eval.specs.Numbers.{Point, Fetched, number_of, number_if, origin, fetched, rounded_up}

-- what a text with flags finds in bytes, for a maker of patterns
abbrev pub Means : Type 0
Means = List ℕ → PatternFlags → List ℕ → Option Span

-- the point at another place
abbrev pub at_place : Point → ℕ → Point
at_place before place = record before { place = place }

-- a fact, or under `!` that it doesn't hold
abbrev pub Unless : Bool → Type 0 → Type 0
Unless negated P = MatchBool negated (¬ P) P

-- ---- offset, depth, distance, within

-- `offset`, or `distance` from the place before: where the window of a content begins
abbrev pub window_start : Content → Point → ℤ
window_start content before = pos (origin content.relative before) +ℤ unwrap_or (number_if before.values content.from) (pos 0)

-- `depth`, or `within`: the place this many bytes on, by which the content ends
abbrev pub window_end : Content → Point → Option ℤ
window_end content before = option_map (λ room. window_start content before +ℤ room) (number_if before.values content.room)

-- ---- fast_pattern

-- `fast_pattern:only`, which asks for the content anywhere and in either case
abbrev pub is_only : FastMode → Bool
is_only fast.Only = true
is_only _ = false

-- ---- content, nocase

-- how a content is sought: under `nocase` in either case, from a place on, and up to a place if there is one
pub record Sought : Type 0 where
  pub nocase : Bool
  pub from : ℤ
  pub until : Option ℤ

-- how the content is sought from a point
abbrev pub sought : Content → Point → Sought
sought content before =
    if is_only content.fast
    then record { nocase = true; from = pos 0; until = None }
    else record { nocase = content.nocase; from = window_start content before; until = window_end content before }

-- bytes occur in the payload at place i, as they are sought
pub record IsFoundAt (bytes payload : List ℕ) (how : Sought) (i : ℕ) : Type 0 where
  pub from : how.from ≤ℤ pos i
  pub until : IfSome how.until (λ end. pos (i + length bytes) ≤ℤ end)
  pub occurs : OccursAt (folded how.nocase payload) (folded how.nocase bytes) i

-- a content leads to the end of each place where it occurs; a negated one stays, where it occurs nowhere; one
-- that is sought by the fast pattern alone stays too
abbrev pub ContentLeads : Content → List ℕ → Point → Point → Type 0
ContentLeads content payload before after =
    let IsHere = IsFoundAt content.bytes payload (sought content before) in
    MatchBool content.negated
    (((i : ℕ) → ¬ IsHere i) × (after ≡ before))
    ((i : ℕ) × IsHere i × (after ≡ (if is_only content.fast then before else at_place before (i + length content.bytes))))

-- ---- isdataat

-- isdataat stays, where the payload has a byte so far from where it counts, or under `!` has none
abbrev pub IsDataAtLeads : Num → Bool → Bool → List ℕ → Point → Point → Type 0
IsDataAtLeads at relative negated payload before after =
    Unless negated ((pos (origin relative before) +ℤ number_of before.values at) <ℤ pos (length payload)) × (after ≡ before)

-- ---- pcre

-- pcre leads to the end of the one match that its pattern finds, in the bytes from the place on if it is
-- relative; a negated one stays, where nothing is found
abbrev pub PcreLeads : (List ℕ → Option Span) → Bool → Bool → List ℕ → Point → Point → Type 0
PcreLeads finds relative negated payload before after =
    let found = finds (drop (origin relative before) payload) in
    MatchBool negated
    ((found ≡ None) × (after ≡ before))
    ((span : Span) × (found ≡ Some span) × (after ≡ at_place before (origin relative before + span.end)))

-- ---- byte_test

-- two numbers have a bit in common
abbrev pub SharesBit : ℕ → ℤ → Type 0
SharesBit number (pos value) = bit_and number value ≢ 0
SharesBit number (negsuc value) = ⊥

-- a fetched number compares with a value
abbrev pub Compares : Cmp → ℕ → ℤ → Type 0
Compares cmp.Eq number value = pos number ≡ value
Compares cmp.Ne number value = pos number ≢ value
Compares cmp.Lt number value = pos number <ℤ value
Compares cmp.Gt number value = value <ℤ pos number
Compares cmp.Le number value = pos number ≤ℤ value
Compares cmp.Ge number value = value ≤ℤ pos number
Compares cmp.And number value = SharesBit number value
Compares cmp.Within number value = pos number ≡ value

-- byte_test stays, where the number compares so, or under `!` doesn't
abbrev pub ByteTestLeads : Fetch → Bool → Cmp → Num → List ℕ → Point → Point → Type 0
ByteTestLeads fetch negated cmp value payload before after =
    (read : Fetched) × (fetched payload fetch before ≡ Some read)
    × Unless negated (Compares cmp read.number (number_of before.values value)) × (after ≡ before)

-- ---- byte_jump

-- `multiplier`, then `align`: how far a number jumps
abbrev pub byte_jump_len : ℕ → Bool → ℕ → ℕ
byte_jump_len times align number = rounded_up (if align then 4 else 0) (number * times)

-- a jump, by its modifiers: `multiplier`, `align`, `from_beginning` and `post_offset`
pub record Jump : Type 0 where
  pub times : ℕ
  pub align : Bool
  pub beginning : Bool
  pub post : ℤ

abbrev pub jump : ℕ → Bool → Bool → ℤ → Jump
jump times align beginning post = record { times = times; align = align; beginning = beginning; post = post }

-- byte_jump leads so far from the place after the number, or under `from_beginning` from the payload's
-- start, and `post_offset` bytes more; no further than the payload's end
abbrev pub ByteJumpLeads : Fetch → Jump → List ℕ → Point → Point → Type 0
ByteJumpLeads fetch how payload before after =
    (read : Fetched) × (fetched payload fetch before ≡ Some read) × (after.values ≡ before.values)
    × (after.place ≤ length payload)
    × (pos after.place
    ≡ (pos ((if how.beginning then 0 else read.stop) + byte_jump_len how.times how.align read.number) +ℤ how.post))

-- ---- byte_extract

-- byte_extract leads to the end of the number, which the name has from there on
abbrev pub ByteExtractLeads : Fetch → ℕ → ℕ → ℕ → List ℕ → Point → Point → Type 0
ByteExtractLeads fetch name times align payload before after =
    (read : Fetched) × (fetched payload fetch before ≡ Some read)
    × (after ≡ record { place = read.stop; values = slice_set before.values name (rounded_up align (read.number * times)) })

-- ---- all options of a rule

-- from a point an option leads to another, which has the place and the values after it; an option
-- that asks nothing of the payload leads nowhere else
unfoldable pub Leads : Means → List ℕ → Opt → Point → Point → Type 0
Leads means payload (opt.Content content) before after = ContentLeads content payload before after
Leads means payload (opt.IsDataAt at relative negated) before after =
    IsDataAtLeads at relative negated payload before after
Leads means payload (opt.Pcre text flags relative negated) before after =
    PcreLeads (means text flags) relative negated payload before after
Leads means payload (opt.ByteTest fetch negated cmp value) before after =
    ByteTestLeads fetch negated cmp value payload before after
Leads means payload (opt.ByteJump fetch times align beginning post) before after =
    ByteJumpLeads fetch (jump times align beginning post) payload before after
Leads means payload (opt.ByteExtract fetch name times align) before after =
    ByteExtractLeads fetch name times align payload before after
Leads means payload _ before after = after ≡ before

-- a way through the options: the points after each of them
abbrev pub IsWay : Means → List ℕ → List Opt → Point → List Point → Type 0
IsWay means payload [] before [] = Unit {0}
IsWay means payload (option ∷ options) before (after ∷ later) =
    Leads means payload option before after × IsWay means payload options after later
IsWay means payload [] before (after ∷ later) = ⊥
IsWay means payload (option ∷ options) before [] = ⊥

-- the payload's start, with no value extracted
abbrev pub start : Point
start = record { place = 0; values = 0 ∷ 0 ∷ [] }

-- the payload matches the rule: some way leads from its start through all options
abbrev pub PayloadMatches : Means → Rule → List ℕ → Type 0
PayloadMatches means rule payload = (way : List Point) × IsWay means payload rule.opts start way

-- an option that asks something of the payload
abbrev pub is_payload_option : Opt → Bool
is_payload_option (opt.Content content) = true
is_payload_option (opt.Pcre text flags relative negated) = true
is_payload_option (opt.ByteTest fetch not cmp value) = true
is_payload_option (opt.ByteJump fetch times align beginning post) = true
is_payload_option (opt.ByteExtract fetch name times align) = true
is_payload_option (opt.IsDataAt at relative negated) = true
is_payload_option _ = false

-- an option that extracts a value
abbrev pub is_extract : Opt → Bool
is_extract (opt.ByteExtract fetch name times align) = true
is_extract _ = false
