-- Contents and their modifiers (Snort Users Manual 2.9, sections 3.5.1 to 3.5.9 and 3.5.22).
--
-- `content:[!]"text"` has 1 to 2048 bytes. A modifier speaks of the last content before it. It is misplaced
-- where there is none, where the content has it already, where it would mix `offset` or `depth` with
-- `distance` or `within`, and where it is a second `fast_pattern` of the rule; that comes before any fault
-- of its value. A `fast_pattern` on a negated content, or `fast_pattern:only`, does not go with a place
-- or a room; of the two the later one has the wrong value (own). A name in a modifier must be extracted
-- before its content (own).
-- To try it on: `content:"ab"; depth:2; offset:1;` is bytes 1 to 3; `depth:1` is a wrong value there, and
-- `distance:1` after `depth:2` is misplaced.
use Rattle.std.specs.Prelude.{ℕ, ◌+◌, ◌==◌, ◌&&◌, ◌||◌, Bool, true, false, not, pos, negsuc, Option, Some, None, Result, Ok, Err, List, [], ◌∷◌, length, take, bytes_eq, codes, nat_le, is_some, if◌then◌else◌}
use Rattle.edge_io.specs.OnResult.{◌>>=◌}
use Rattle.net_lists.specs.Cutting.{comma_parts}
use Rattle.net_lists.specs.Numbers.{number_in}
use Rattle.net_lists.specs.Stops.{or_kind}
use Rattle.rule_parser.specs.declared.draft.RuleDraft.{RuleDraft}
use Rattle.rule_parser.specs.declared.draft.LastContent.{LastContent}
use Rattle.rule_parser.specs.declared.fault.Fault.{Fault}
use Rattle.rule_parser.specs.declared.fault.Fault.TheVariants.{OptionValue, Misplaced, Limit}
use Rattle.rule_parser.specs.declared.names.Modifier.{Modifier}
use Rattle.rule_parser.specs.declared.names.Modifier.TheVariants as modifier
use Rattle.rule_types.specs.declared.option.Content.{Content}
use Rattle.rule_types.specs.declared.option.FastMode.{FastMode}
use Rattle.rule_types.specs.declared.option.FastMode.TheVariants as fast
use Rattle.rule_types.specs.declared.option.Num.{Num}
use Rattle.rule_types.specs.declared.option.Num.TheVariants as num
use Rattle.rule_parser.specs.declared.quoted.Style.TheVariants.{Bytes}
use Rattle.rule_parser.specs.declared.quoted.QuotedPlace.TheVariants.{Plain}
use Rattle.rule_parser.specs.Drafts.{kept_count, settled}
use Rattle.rule_parser.specs.Names.{signed_or_named, named}
use Rattle.rule_parser.specs.Quotes.{meaning}
use Rattle.rule_parser.specs.Texts.{quoted_whole}

-- whether a `!` (33) is in front, and what comes after it
abbrev pub negation : List ℕ → Bool × List ℕ
negation [] = (false, [])
negation (first ∷ rest) = if first == 33 then (true, rest) else (false, first ∷ rest)

-- a content before its modifiers
abbrev pub plain_content : Bool → List ℕ → Content
plain_content negated bytes = record {
  bytes = bytes;
  negated = negated;
  nocase = false;
  relative = false;
  from = None;
  room = None;
  fast = fast.No;
}

-- the draft with the last content in its place, and this one apart
abbrev pub with_content : RuleDraft → Content → RuleDraft
with_content draft content = record draft {
  opts = settled draft;
  held = Some (record {
    content = content;
    place = length (settled draft);
    known = length draft.names;
    raw = false;
    placeless = false;
  });
}

-- the draft with a content of these bytes, where there are some, not too many, and there is room
abbrev pub with_bytes : RuleDraft → Bool → List ℕ → Result RuleDraft Fault
with_bytes draft negated bytes =
    if length bytes == 0 then Err OptionValue
    else if nat_le (length bytes) 2048 && not (nat_le 64 (kept_count draft))
    then Ok (with_content draft (plain_content negated bytes))
    else Err Limit

-- `content:[!]"text"`
unfoldable pub content_option : RuleDraft → List ℕ → Result RuleDraft Fault
content_option draft value = do
  inside ← quoted_whole (negation value).1
  bytes ← or_kind OptionValue (meaning Bytes Plain inside)
  with_bytes draft (negation value).0 bytes

-- the last content, where there is one, and the draft without it
unfoldable pub apart : RuleDraft → Result (LastContent × RuleDraft) Fault
apart draft = or_kind Misplaced draft.held >>= λ held. Ok (held, record draft { held = None })

-- the draft with this last content
abbrev pub with_last : RuleDraft → LastContent → RuleDraft
with_last draft held = record draft { held = Some held }

-- what `nocase` makes of the last content
unfoldable pub nocase : LastContent → Option (List ℕ) → Result LastContent Fault
nocase held value = if held.content.nocase then Err Misplaced else if is_some value then Err OptionValue
    else Ok (record held { content = record held.content { nocase = true } })

unfoldable pub nocase_option : RuleDraft → Option (List ℕ) → Result RuleDraft Fault
nocase_option draft value = do
  parts ← apart draft
  held ← nocase parts.0 value
  Ok (with_last parts.1 held)

-- `rawbytes`, which changes nothing
unfoldable pub rawbytes : LastContent → Option (List ℕ) → Result LastContent Fault
rawbytes held value = if held.raw then Err Misplaced else if is_some value then Err OptionValue
    else Ok (record held { raw = true })

unfoldable pub rawbytes_option : RuleDraft → Option (List ℕ) → Result RuleDraft Fault
rawbytes_option draft value = do
  parts ← apart draft
  held ← rawbytes parts.0 value
  Ok (with_last parts.1 held)

-- a place is told: `offset` or `depth`
abbrev pub is_placed : Content → Bool
is_placed content = (is_some content.from || is_some content.room) && not content.relative

-- a modifier that counts from the match before: `distance` and `within`, in place of `offset` and `depth`
abbrev pub is_relative : Modifier → Bool
is_relative modifier.Distance = true
is_relative modifier.Within = true
is_relative _ = false

-- a modifier has the other origin than those that the content has
abbrev pub is_mixed : Modifier → Content → Bool
is_mixed name content = if is_relative name then is_placed content else content.relative

-- whether this one of `offset` and `distance` may not be given any more
abbrev pub bars_from : Modifier → Content → Bool
bars_from name content = is_some content.from || is_mixed name content

-- whether this one of `depth` and `within` may not be given any more
abbrev pub bars_room : Modifier → Content → Bool
bars_room name content = is_some content.room || is_mixed name content

-- the value of a modifier that tells a place or a room, where it may be given
abbrev pub place_text : Bool → Bool → Option (List ℕ) → Result (List ℕ) Fault
place_text bars placeless value = if bars then Err Misplaced else if placeless then Err OptionValue else or_kind OptionValue value

-- the names that were extracted before the content
abbrev pub known_before : List (List ℕ) → LastContent → List (List ℕ)
known_before names held = take held.known names

-- what `offset` or `distance` makes of the last content; `left` is how many bytes of the line are left where the
-- value begins
unfoldable pub with_from : Modifier → LastContent → List (List ℕ) → ℕ → Option (List ℕ) → Result LastContent Fault
with_from name held names left value = do
  text ← place_text (bars_from name held.content) held.placeless value
  from ← signed_or_named (negsuc 65534) (pos 65535) (known_before names held) left text
  Ok (record held { content = record held.content { relative = is_relative name; from = Some from } })

unfoldable pub from_option : Modifier → RuleDraft → ℕ → Option (List ℕ) → Result RuleDraft Fault
from_option name draft left value = do
  parts ← apart draft
  held ← with_from name parts.0 parts.1.names left value
  Ok (with_last parts.1 held)

-- how far a content of `size` bytes may go: as far as it is long at least, or as far as a name says
abbrev pub room_of : ℕ → List (List ℕ) → ℕ → List ℕ → Option ℕ → Result Num Fault
room_of size known left text None = named known left text
room_of size known left text (Some number) = if nat_le size number then Ok (num.Value (pos number)) else Err OptionValue

-- what `depth` or `within` makes of the last content
unfoldable pub with_room : Modifier → LastContent → List (List ℕ) → ℕ → Option (List ℕ) → Result LastContent Fault
with_room name held names left value = do
  text ← place_text (bars_room name held.content) held.placeless value
  room ← room_of (length held.content.bytes) (known_before names held) left text (number_in 0 65535 text)
  Ok (record held { content = record held.content { relative = is_relative name; room = Some room } })

unfoldable pub room_option : Modifier → RuleDraft → ℕ → Option (List ℕ) → Result RuleDraft Fault
room_option name draft left value = do
  parts ← apart draft
  held ← with_room name parts.0 parts.1.names left value
  Ok (with_last parts.1 held)

-- a part of a content of `size` bytes, from a place on
unfoldable pub fast_part : ℕ → List (List ℕ) → Result FastMode Fault
fast_part size (first ∷ second ∷ []) = do
  from ← or_kind OptionValue (number_in 0 2048 first)
  len ← or_kind OptionValue (number_in 1 2048 second)
  if nat_le (from + len) size then Ok (fast.Part from len) else Err OptionValue
fast_part size [] = Err OptionValue
fast_part size (only ∷ []) = Err OptionValue
fast_part size (first ∷ second ∷ third ∷ more) = Err OptionValue

-- what the value of a `fast_pattern` says, for a content of `size` bytes
unfoldable pub fast_mode : ℕ → Option (List ℕ) → Result FastMode Fault
fast_mode size None = Ok fast.Yes
fast_mode size (Some value) = if bytes_eq value (codes "only") then Ok fast.Only else fast_part size (comma_parts value)

-- the fast pattern is `only`
abbrev pub is_only : FastMode → Bool
is_only fast.Only = true
is_only fast.No = false
is_only fast.Yes = false
is_only (fast.Part from len) = false

-- the fast pattern that the content has: on a negated one a `fast_pattern` changes nothing
abbrev pub fast_on : Bool → FastMode → FastMode
fast_on negated mode = if negated then fast.No else mode

-- a place or a room is told
abbrev pub has_room : Content → Bool
has_room content = is_some content.from || is_some content.room

-- a `fast_pattern` of this form may not be given for the content
abbrev pub bars_fast : FastMode → Content → Bool
bars_fast mode content = (is_only mode && content.negated) || ((is_only mode || content.negated) && has_room content)

-- `fast_pattern`, `fast_pattern:only`, `fast_pattern:o,l`
unfoldable pub fast_pattern_option : RuleDraft → Option (List ℕ) → Result RuleDraft Fault
fast_pattern_option draft value = do
  held ← if draft.fast then Err Misplaced else or_kind Misplaced draft.held
  mode ← fast_mode (length held.content.bytes) value
  if bars_fast mode held.content then Err OptionValue
      else Ok (record draft {
        fast = true;
        held = Some (record held {
          placeless = is_only mode || held.content.negated;
          content = record held.content { fast = fast_on held.content.negated mode };
        });
      })
