-- The lines `event_filter` and `suppress`: which events are kept. (Snort Users Manual 2.9, sections 2.4.2 and 2.4.3.)
--
-- Parts are between commas; the first word names a part, and the rest is its value. An event filter has all
-- six parts, each once and in any order. A suppress line has two parts, or four, in their order; a part
-- without its value lacks, and counts at the end of the line.
-- To try it on: `suppress gen_id, sig_id 1, track by_src, ip 10.0` is a bad address list.
use Rattle.std.specs.Prelude.{ℕ, ◌==◌, ◌&&◌, ◌||◌, ◌++◌, not, Bool, true, false, Option, Some, None, Result, Ok, Err, List, [], ◌∷◌, length, is_some, codes, nat_le, if◌then◌else◌}
use Rattle.std.specs.List.{list_any}
use Rattle.net_lists.specs.Numbers.{number_in}
use Rattle.net_lists.specs.Variables.{Variables}
use Rattle.net_lists.specs.Cutting.{comma_parts, first_word, after_word}
use Rattle.net_lists.specs.Folds.{draft_after}
use Rattle.conf_types.specs.declared.filter.EventFilter.{EventFilter}
use Rattle.conf_types.specs.declared.filter.FilterKind.{FilterKind}
use Rattle.conf_types.specs.declared.filter.FilterKind.TheVariants as kind
use Rattle.conf_types.specs.declared.filter.Track.{Track}
use Rattle.conf_types.specs.declared.filter.Track.TheVariants.{BySrc, ByDst}
use Rattle.conf_types.specs.declared.filter.Suppress.{Suppress}
use Rattle.conf_parser.specs.declared.events.FilterName.{FilterName}
use Rattle.conf_parser.specs.declared.events.FilterName.TheVariants as name
use Rattle.conf_parser.specs.declared.events.FilterDraft.{FilterDraft}
use Rattle.conf_parser.specs.declared.events.SuppressDraft.{SuppressDraft}
use Rattle.conf_parser.specs.declared.events.NextPart.{NextPart}
use Rattle.conf_parser.specs.declared.events.NextPart.TheVariants as next
use Rattle.conf_parser.specs.declared.line.ConfKind.{ConfKind}
use Rattle.conf_parser.specs.declared.line.ConfKind.TheVariants.{BadValue, Duplicate, Limit}
use Rattle.conf_parser.specs.Values.{◌>>=◌, or_kind, mapped, where_good, is_word, is_empty, expanded_addresses}

-- the address that is tracked
unfoldable pub track_of : List ℕ → Option Track
track_of value =
    if is_word value (codes "by_src") then Some BySrc
    else if is_word value (codes "by_dst") then Some ByDst
    else None

-- the source is tracked
abbrev pub is_source : Track → Bool
is_source BySrc = true
is_source ByDst = false

-- the parts of an event filter
unfoldable pub filter_name : List ℕ → Option FilterName
filter_name word =
    if is_word word (codes "gen_id") then Some name.GenId
    else if is_word word (codes "sig_id") then Some name.SigId
    else if is_word word (codes "type") then Some name.Type
    else if is_word word (codes "track") then Some name.Track
    else if is_word word (codes "count") then Some name.Count
    else if is_word word (codes "seconds") then Some name.Seconds
    else None

-- how an event filter counts
unfoldable pub filter_kind : List ℕ → Option FilterKind
filter_kind value =
    if is_word value (codes "limit") then Some kind.Limit
    else if is_word value (codes "threshold") then Some kind.Threshold
    else if is_word value (codes "both") then Some kind.Both
    else None

-- a part that is given for the first time, with what its value spells
abbrev pub once : {A : Type 0} → Option A → Option A → Result A ConfKind
once old read = if is_some old then Err BadValue else or_kind BadValue read

-- the draft after a part
abbrev pub filter_value : FilterDraft → FilterName → List ℕ → Result FilterDraft ConfKind
filter_value draft name.GenId value = mapped (λ n. record draft { gid = Some n }) (once draft.gid (number_in 0 4294967295 value))
filter_value draft name.SigId value = mapped (λ n. record draft { sid = Some n }) (once draft.sid (number_in 0 4294967295 value))
filter_value draft name.Type value = mapped (λ k. record draft { kind = Some k }) (once draft.kind (filter_kind value))
filter_value draft name.Track value = mapped (λ t. record draft { track = Some t }) (once draft.track (track_of value))
filter_value draft name.Count value =
    mapped (λ n. record draft { count = Some n }) (once draft.count (number_in 1 4294967295 value))
filter_value draft name.Seconds value =
    mapped (λ n. record draft { seconds = Some n }) (once draft.seconds (number_in 1 4294967295 value))

-- one part of an event filter
unfoldable pub filter_part : FilterDraft → List ℕ → Result FilterDraft ConfKind
filter_part draft part = or_kind BadValue (filter_name (first_word part)) >>= λ name. filter_value draft name (after_word part)

-- the draft of a filter before the first part
abbrev pub no_parts : FilterDraft
no_parts = record { gid = None; sid = None; kind = None; track = None; count = None; seconds = None }

-- a rule is named only with its generator
abbrev pub names_rule_alone : ℕ → ℕ → Bool
names_rule_alone gid sid = gid == 0 && not (sid == 0)

-- the filter, where all six parts were given
unfoldable pub filter_of : FilterDraft → Result EventFilter ConfKind
filter_of draft = do
  gid ← or_kind BadValue draft.gid
  sid ← or_kind BadValue draft.sid
  kind ← or_kind BadValue draft.kind
  track ← or_kind BadValue draft.track
  count ← or_kind BadValue draft.count
  seconds ← or_kind BadValue draft.seconds
  where_good (not (names_rule_alone gid sid)) (record {
    gid = gid;
    sid = sid;
    kind = kind;
    by_src = is_source track;
    count = count;
    seconds = seconds;
  })

-- a filter of this generator and rule is there
unfoldable pub has_filter : List EventFilter → ℕ → ℕ → Bool
has_filter filters gid sid = list_any (λ filter. filter.gid == gid && filter.sid == sid) filters

-- the filters with one more: one for a generator and rule, and at most 1024 in all
unfoldable pub with_filter : List EventFilter → EventFilter → Result (List EventFilter) ConfKind
with_filter filters filter =
    if has_filter filters filter.gid filter.sid then Err Duplicate
    else if nat_le 1024 (length filters) then Err Limit
    else Ok (filters ++ filter ∷ [])

-- the filter that a line gives
unfoldable pub read_filter : List ℕ → Result EventFilter ConfKind
read_filter rest = draft_after filter_part no_parts (comma_parts rest) >>= filter_of

-- `event_filter`: the filters after the line
unfoldable pub event_filter : List EventFilter → List ℕ → Result (List EventFilter) ConfKind
event_filter filters rest = read_filter rest >>= with_filter filters

-- what the next part of a suppress line begins with; None after the last
abbrev pub next_word : NextPart → Option (List ℕ)
next_word next.GenId = Some (codes "gen_id")
next_word next.SigId = Some (codes "sig_id")
next_word next.Track = Some (codes "track")
next_word next.Ip = Some (codes "ip")
next_word next.End = None

-- the part after a part
abbrev pub part_after : NextPart → NextPart
part_after next.GenId = next.SigId
part_after next.SigId = next.Track
part_after next.Track = next.Ip
part_after next.Ip = next.End
part_after next.End = next.End

-- the word is the one that the next part begins with
abbrev pub is_named : Option (List ℕ) → List ℕ → Bool
is_named None word = false
is_named (Some wanted) word = is_word word wanted

-- the value of the next part
abbrev pub suppress_value : Variables → SuppressDraft → NextPart → List ℕ → Result SuppressDraft ConfKind
suppress_value variables draft next.GenId value =
    mapped (λ n. record draft { gid = n }) (or_kind BadValue (number_in 0 4294967295 value))
suppress_value variables draft next.SigId value =
    mapped (λ n. record draft { sid = n }) (or_kind BadValue (number_in 0 4294967295 value))
suppress_value variables draft next.Track value =
    mapped (λ t. record draft { track = Some t }) (or_kind BadValue (track_of value))
suppress_value variables draft next.Ip value =
    mapped (λ list. record draft { list = Some list }) (expanded_addresses variables value)
suppress_value variables draft next.End value = Err BadValue

-- the draft, with the part after this one as the next
abbrev pub past : NextPart → SuppressDraft → SuppressDraft
past part draft = record draft { next = part_after part }

-- the draft after a part that is in its place, with its value or without
unfoldable pub placed_part : Variables → SuppressDraft → List ℕ → Result SuppressDraft ConfKind
placed_part variables draft value =
    if is_empty value then Ok (record draft { next = part_after draft.next; lacks = true })
    else mapped (past draft.next) (suppress_value variables draft draft.next value)

-- one part of a suppress line
unfoldable pub suppress_part : Variables → SuppressDraft → List ℕ → Result SuppressDraft ConfKind
suppress_part variables draft part =
    if is_named (next_word draft.next) (first_word part) then placed_part variables draft (after_word part) else Err BadValue

-- the draft of a suppress line before the first part
abbrev pub first_part : SuppressDraft
first_part = record { next = next.GenId; lacks = false; gid = 0; sid = 0; track = None; list = None }

-- the line that two parts give
abbrev pub untracked : SuppressDraft → Result Suppress ConfKind
untracked draft = Ok (record { gid = draft.gid; sid = draft.sid; track = None })

-- the line that four parts give
abbrev pub tracked : SuppressDraft → Result Suppress ConfKind
tracked draft = do
  track ← or_kind BadValue draft.track
  list ← or_kind BadValue draft.list
  Ok (record { gid = draft.gid; sid = draft.sid; track = Some (track, list) })

-- the line, where two or four parts were given, each with its value
unfoldable pub suppress_of : SuppressDraft → Result Suppress ConfKind
suppress_of draft =
    if draft.lacks then Err BadValue
    else elim (draft.next) [ next.Track ↦ untracked draft | next.End ↦ tracked draft | _ ↦ Err BadValue ]

-- the suppress lines with one more: at most 1024 in all
unfoldable pub with_suppress : List Suppress → Suppress → Result (List Suppress) ConfKind
with_suppress lines line = if nat_le 1024 (length lines) then Err Limit else Ok (lines ++ line ∷ [])

-- the suppress line that a text gives
unfoldable pub read_suppress : Variables → List ℕ → Result Suppress ConfKind
read_suppress variables rest = draft_after (suppress_part variables) first_part (comma_parts rest) >>= suppress_of

-- `suppress`: the lines after it
unfoldable pub suppress : Variables → List Suppress → List ℕ → Result (List Suppress) ConfKind
suppress variables lines rest = read_suppress variables rest >>= with_suppress lines
