-- The `config` lines: classes, checksums, the event queue, and whether queued packets are tried themselves.
--
-- (Snort Users Manual 2.9, sections 2.1.3 and 3.4.6.)
-- To try it on: `checksum_mode: none all noudp` leaves all but UDP; `classification: a,Some text,2` is a class,
-- and a second line of the name `a` changes nothing.
use Rattle.std.specs.Prelude.{ℕ, ◌&&◌, ◌||◌, ◌++◌, not, Bool, true, false, Option, Some, None, Result, Ok, Err, List, [], ◌∷◌, length, is_some, codes, nat_le, if◌then◌else◌}
use Rattle.std.specs.List.{list_any}
use Rattle.edge_io.specs.Bytes.{trimmed}
use Rattle.net_lists.specs.Addresses.{cut}
use Rattle.net_lists.specs.Numbers.{number_in}
use Rattle.net_lists.specs.Cutting.{words, settings}
use Rattle.net_lists.specs.Folds.{draft_after}
use Rattle.packet_decode.specs.declared.checks.Checks.{Checks}
use Rattle.conf_types.specs.Classes.{class_place}
use Rattle.conf_types.specs.declared.classes.Class.{Class}
use Rattle.conf_types.specs.declared.config.QueueLimits.{QueueLimits}
use Rattle.conf_parser.specs.declared.line.ConfKind.{ConfKind}
use Rattle.conf_parser.specs.declared.line.ConfKind.TheVariants.{BadValue, Limit}
use Rattle.conf_parser.specs.Values.{◌>>=◌, or_kind, mapped, is_word, is_empty}
use Rattle.conf_parser.specs.Options.{settings_after}
use Rattle.conf_parser.specs.Settings.{all_checks, no_checks}

-- a class of this name, text and priority, whose name and text are not empty
abbrev pub class_with : List ℕ → List ℕ → ℕ → Result Class ConfKind
class_with name text priority =
    if is_empty name || is_empty text then Err BadValue else Ok (record { name = name; text = text; priority = priority })

-- three parts between commas (44), without the blanks around them: name, text and priority
unfoldable pub class_of : List ℕ → Result Class ConfKind
class_of value = do
  name ← or_kind BadValue (cut 44 value)
  text ← or_kind BadValue (cut 44 name.1)
  priority ← or_kind BadValue (number_in 1 2147483647 (trimmed text.1))
  class_with (trimmed name.0) (trimmed text.0) priority

-- the classes with one more, unless its name is there; at most 1024
unfoldable pub with_class : List Class → Class → Result (List Class) ConfKind
with_class classes class =
    if is_some (class_place classes class.name) then Ok classes
    else if nat_le 1024 (length classes) then Err Limit
    else Ok (classes ++ class ∷ [])

-- `classification`: the classes after the line
unfoldable pub classification : List Class → List ℕ → Result (List Class) ConfKind
classification classes value = class_of value >>= with_class classes

-- one word of `checksum_mode`
unfoldable pub checks_after : Checks → List ℕ → Result Checks ConfKind
checks_after checks word =
    if is_word word (codes "all") then Ok all_checks
    else if is_word word (codes "none") then Ok no_checks
    else if is_word word (codes "noip") then Ok (record checks { ip = false })
    else if is_word word (codes "notcp") then Ok (record checks { tcp = false })
    else if is_word word (codes "noudp") then Ok (record checks { udp = false })
    else if is_word word (codes "noicmp") then Ok (record checks { icmp = false })
    else Err BadValue

-- `checksum_mode`: at least one word, from left to right, each on what the words and lines before it left
unfoldable pub checksum_mode : Checks → List ℕ → Result Checks ConfKind
checksum_mode checks value = if is_empty value then Err BadValue else draft_after checks_after checks (words value)

-- the order of events: by priority or by the length of their contents
unfoldable pub event_order : List ℕ → Option Bool
event_order value =
    if is_word value (codes "priority") then Some true
    else if is_word value (codes "content_length") then Some false
    else None

-- one setting of `event_queue`
unfoldable pub queue_setting : QueueLimits → List ℕ → Option (List ℕ) → Result QueueLimits ConfKind
queue_setting queue name None = Err BadValue
queue_setting queue name (Some value) =
    if is_word name (codes "max_queue") then mapped (λ n. record queue { max_queue = n })
    (or_kind BadValue (number_in 1 1024 value))
    else if is_word name (codes "log") then mapped (λ n. record queue { log = n }) (or_kind BadValue (number_in 1 1024 value))
    else if is_word name (codes "order_events") then mapped (λ b. record queue { by_priority = b })
    (or_kind BadValue (event_order value))
    else Err BadValue

-- `event_queue`: its settings, each with a value, on what the lines before left
unfoldable pub event_queue : QueueLimits → List ℕ → Result QueueLimits ConfKind
event_queue queue value = settings_after (λ name. false) queue_setting queue value

-- the word of `detection` that has a meaning
abbrev pub stops_inserts : List ℕ → Bool
stops_inserts word = is_word word (codes "no_stream_inserts")

-- `detection`: whether packets whose data are queued are tried themselves; other words change nothing
unfoldable pub detection : Bool → List ℕ → Bool
detection inserts value = inserts && not (list_any stops_inserts (settings value))
