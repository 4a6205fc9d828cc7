-- The `config` lines, event filters and suppress lines keep a sound draft.
use Rattle.std.proofs.Common.{ℕ, ◌≤◌, List, length, Option, Some, None}
use Rattle.std.specs.Prelude.{IfSome, All, nat_le, is_some, not, ◌||◌}
use Rattle.std.proofs.lemmas.List.Elements.{All-push}
use Rattle.edge_io.specs.Bytes.{trimmed}
use Rattle.net_lists.specs.Addresses.{cut}
use Rattle.net_lists.specs.Cutting.{after_word, comma_parts, first_word}
use Rattle.net_lists.specs.Numbers.{number_in}
use Rattle.net_lists.specs.Variables.{Variables}
use Rattle.net_lists.proofs.Steps.{Holds, given, refused, tested, unless, kinded, chained, after_any, folded, ranged, steps}
use Rattle.conf_types.specs.declared.classes.Class.{Class}
use Rattle.conf_types.specs.declared.config.QueueLimits.{QueueLimits}
use Rattle.conf_parser.specs.declared.events.FilterDraft.{FilterDraft}
use Rattle.conf_parser.specs.declared.events.FilterName.{FilterName}
use Rattle.conf_parser.specs.declared.events.FilterName.TheVariants as name
use Rattle.conf_types.specs.declared.filter.EventFilter.{EventFilter}
use Rattle.conf_types.specs.declared.filter.Suppress.{Suppress}
use Rattle.conf_parser.specs.declared.line.ConfKind.TheVariants.{BadValue}
use Rattle.conf_types.specs.Classes.{class_place}
use Rattle.conf_parser.specs.Config.{class_of, with_class, classification, queue_setting, event_queue}
use Rattle.conf_parser.specs.Events.{once, filter_value, filter_part, no_parts, filter_of, with_filter, filter_name, has_filter, read_suppress, names_rule_alone}
use Rattle.conf_parser.specs.Events.{read_filter, event_filter, with_suppress, suppress}
use Rattle.conf_types.specs.Sound.{IsWithin, IsClass, IsFilter, AreQueueLimits}
use Rattle.conf_parser.specs.Values.{or_kind, is_empty}
use Rattle.conf_parser.proofs.Sound.Steps.{changed, free, numbered, set, pushed-few}

-- ---- lists of at most 1024

abbrev pub Few : {X : Type 0} → List X → Type 0
Few xs = length xs ≤ 1024

with_suppress-few : (lines : List Suppress) (line : Suppress) → Holds Few (with_suppress lines line)
unfolding with_suppress
with_suppress-few lines line = unless (nat_le 1024 (length lines)) _ (λ room. given (pushed-few lines line room))

pub suppress-few : (variables : Variables) (lines : List Suppress) (rest : List ℕ) → Holds Few (suppress variables lines rest)
unfolding suppress
suppress-few variables lines rest = after_any (read_suppress variables rest) (with_suppress-few lines)

-- ---- classes

class_of-sound : (value : List ℕ) → Holds IsClass (class_of value)
unfolding class_of
class_of-sound value =
    after_any (or_kind BadValue (cut 44 value)) (λ front.
    after_any _ (λ middle.
    chained (ranged _ 1 2147483647 (trimmed middle.1)) (λ priority within.
    unless (is_empty (trimmed front.0) || is_empty (trimmed middle.0)) _ (λ _. given (record { priority = within })))))

-- the classes read so far
pub record AreClasses (classes : List Class) : Type 0 where
  pub count : length classes ≤ 1024
  pub each : All IsClass classes

with_class-sound : (classes : List Class) (class : Class) → AreClasses classes → IsClass class → Holds AreClasses (with_class classes class)
unfolding with_class
with_class-sound classes class sound one =
    tested (is_some (class_place classes class.name)) (λ _. given sound) (λ _.
    unless _ _ (λ room. given (record { count = pushed-few classes class room; each = All-push IsClass classes class sound.each one })))

pub classification-sound : (classes : List Class) (value : List ℕ) → AreClasses classes → Holds AreClasses (classification classes value)
unfolding classification
classification-sound classes value sound = chained (class_of-sound value) (λ class one. with_class-sound classes class sound one)

-- ---- event_queue

queue_setting-sound : (queue : QueueLimits) (name : List ℕ) (value : Option (List ℕ)) → AreQueueLimits queue → Holds AreQueueLimits (queue_setting queue name value)
unfolding queue_setting
queue_setting-sound queue name None sound = refused
queue_setting-sound queue name (Some value) sound = search (steps, numbered, free, sound) depth 12

pub event_queue-sound : (queue : QueueLimits) (value : List ℕ) → AreQueueLimits queue → Holds AreQueueLimits (event_queue queue value)
unfolding event_queue
event_queue-sound queue value sound = set _ queue_setting-sound queue value sound

-- ---- event filters

-- the parts of an event filter that were read
record IsFilterDraft (draft : FilterDraft) : Type 0 where
  count : IfSome draft.count (IsWithin 1 4294967295)
  seconds : IfSome draft.seconds (IsWithin 1 4294967295)

once-within : (old : Option ℕ) (least most : ℕ) (value : List ℕ) → Holds (IsWithin least most) (once old (number_in least most value))
once-within old least most value = unless (is_some old) _ (λ _. ranged _ least most value)

filter_value-sound : (draft : FilterDraft) (name : FilterName) (value : List ℕ) → IsFilterDraft draft → Holds IsFilterDraft (filter_value draft name value)
filter_value-sound draft name.GenId value sound = search (free, sound)
filter_value-sound draft name.SigId value sound = search (free, sound)
filter_value-sound draft name.Type value sound = search (free, sound)
filter_value-sound draft name.Track value sound = search (free, sound)
filter_value-sound draft name.Count value sound = changed _ (once-within draft.count 1 4294967295 value) (λ n within. record { count = within; seconds = sound.seconds })
filter_value-sound draft name.Seconds value sound = changed _ (once-within draft.seconds 1 4294967295 value) (λ n within. record { count = sound.count; seconds = within })

filter_part-sound : (draft : FilterDraft) (part : List ℕ) → IsFilterDraft draft → Holds IsFilterDraft (filter_part draft part)
unfolding filter_part
filter_part-sound draft part sound = after_any (or_kind BadValue (filter_name (first_word part))) (λ name. filter_value-sound draft name (after_word part) sound)

filter_of-sound : (draft : FilterDraft) → IsFilterDraft draft → Holds IsFilter (filter_of draft)
unfolding filter_of
filter_of-sound draft sound =
    after_any (or_kind BadValue draft.gid) (λ gid.
    after_any (or_kind BadValue draft.sid) (λ sid.
    after_any (or_kind BadValue draft.kind) (λ kind.
    after_any (or_kind BadValue draft.track) (λ track.
    chained (kinded BadValue draft.count sound.count) (λ count counted.
    chained (kinded BadValue draft.seconds sound.seconds) (λ seconds timed.
    tested (not (names_rule_alone gid sid)) (λ _. given (record { count = counted; seconds = timed })) (λ _. refused)))))))

read_filter-sound : (rest : List ℕ) → Holds IsFilter (read_filter rest)
unfolding read_filter
read_filter-sound rest = chained (folded filter_part-sound no_parts (comma_parts rest) (record { count = tt; seconds = tt })) filter_of-sound

-- the event filters read so far
pub record AreFilters (list : List EventFilter) : Type 0 where
  pub count : length list ≤ 1024
  pub filters : All IsFilter list

with_filter-sound : (filters : List EventFilter) (filter : EventFilter) → AreFilters filters → IsFilter filter → Holds AreFilters (with_filter filters filter)
unfolding with_filter
with_filter-sound filters filter sound one =
    unless (has_filter filters filter.gid filter.sid) _ (λ _.
    unless _ _ (λ room. given (record { count = pushed-few filters filter room; filters = All-push IsFilter filters filter sound.filters one })))

pub event_filter-sound : (filters : List EventFilter) (rest : List ℕ) → AreFilters filters → Holds AreFilters (event_filter filters rest)
unfolding event_filter
event_filter-sound filters rest sound = chained (read_filter-sound rest) (λ filter one. with_filter-sound filters filter sound one)
