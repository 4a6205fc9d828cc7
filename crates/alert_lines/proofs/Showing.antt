-- Lines of items that are made one after another.
use Rattle.std.proofs.Common.{◌≡◌, ℕ, ◌+◌, ◌<◌, List, [], ◌∷◌, ◌++◌, Option, Some, None, Result, Ok, Err, length, get_or, take}
use Rattle.std.proofs.Common.{drop, map, refl, sym, ap, subst, append_assoc, ◌∙◌, arith, slice_get, length-append, zero-add}
use Rattle.std.specs.Prelude.{All, OnOk, ⊤}
use Rattle.std.specs.Option.{ForSome, option_map, option_to_list}
use Rattle.std.specs.List.{flat_map}
use Rattle.std.specs.Borrow.{Bor}
use Rattle.std.specs.Slice.{IsItemAt}
use Rattle.std.proofs.lemmas.List.{append-nil, length-map, length-take-le, map-append, take-append-drop, take_more}
use Rattle.std.proofs.lemmas.List.Concat.{flat_map-append}
use Rattle.std.proofs.lemmas.List.Sums.{sum_by-append}
use Rattle.std.proofs.lemmas.Option.{MatchOption-at_some, slice_get_past, slice_get_read}
use Rattle.edge_io.specs.Along.{trail}
use Rattle.edge_io.proofs.Along.{trail-more}
use Rattle.packet_decode.specs.declared.item.ItemHead.{ItemHead}
use Rattle.conf_types.specs.declared.classes.Class.{Class}
use Rattle.conf_types.specs.declared.config.Config.{Config}
use Rattle.rule_types.specs.declared.rule.Rule.{Rule}
use Rattle.rule_types.specs.Sound.{IsSound}
use Rattle.flow_lanes.specs.declared.answer.Hits.{Hits}
use Rattle.flow_lanes.specs.declared.answer.JobHits.{JobHits}
use Rattle.record_jobs.specs.Way.{LinkedRecord}
use Rattle.event_filters.specs.Events.{Item, kept}
use Rattle.event_filters.specs.Filtering.{FiltersState, IsGiven, Passes}
use Rattle.alert_lines.specs.declared.writer.AlertWriter.{AlertWriter}
use Rattle.alert_lines.specs.declared.tally.Tally.{Tally}
use Rattle.command_words.specs.declared.asked.AlertForm.{AlertForm}
use Rattle.alert_lines.specs.declared.fault.WriteFault.{WriteFault}
use Rattle.alert_lines.specs.declared.fault.WriteFault.TheVariants as write
use Rattle.alert_lines.specs.Beside.{Beside, beside, by_place, carried, whats}
use Rattle.alert_lines.specs.Events.{Alert, Event, event_of, event_at, filtered_item, item_events}
use Rattle.alert_lines.specs.Lines.{text_of, texts_from}
use Rattle.alert_lines.specs.Events.{hit_count}
use Rattle.alert_lines.specs.Gathering.{Sending, Emits}
use Rattle.alert_lines.specs.Showing.{Subject, SourcedItem, places_lines, places_count, ShowsPlaces, items_lines, tally_of, IsWriterAfter, Earlier, Showing, Shown, sending_of, Shows}
use Rattle.alert_lines.specs.Sourcing.{sourced_items}
use Rattle.alert_lines.proofs.Emitting.{emits_both, emits_lacking, emits_longer, emits_none, emits_nothing, emits_stopped, emits_then, emits_told}
use Rattle.alert_lines.proofs.Texts.{texts_from-append}
use Rattle.alert_lines.proofs.Beside.{by_place-append, carried-append, length-carried, whats-append}

-- ---- the rules at some places

-- the texts of a subject's alerts
abbrev text_by : Subject → ℕ → Alert → List ℕ
text_by s = text_of s.form s.classes

places_lines-append : (s : Subject) (before : ℕ) (front back : List ℕ)
    → places_lines s before (front ++ back) ≡ places_lines s before front ++ places_lines s (before + places_count s.rules s.head front) back
unfolding places_lines places_count
places_lines-append s before front back =
    let events : List ℕ → List Event = flat_map (event_at s.rules s.head) in
    let alerts : List ℕ → List Alert = λ places. map (beside s.source) (events places) in
    ap (λ (x : List Event). texts_from (text_by s) before (map (beside s.source) x)) (flat_map-append (event_at s.rules s.head) front back)
    ∙ ap (texts_from (text_by s) before) (map-append (beside s.source) (events front) (events back))
    ∙ texts_from-append (text_by s) before (alerts front) (alerts back)
    ∙ ap (λ (n : ℕ). texts_from (text_by s) before (alerts front) ++ texts_from (text_by s) (before + n) (alerts back)) (length-map (events front) (beside s.source))

places_count-append : (rules : List Rule) (head : ItemHead) (front back : List ℕ) → places_count rules head (front ++ back) ≡ places_count rules head front + places_count rules head back
unfolding places_count
places_count-append rules head front back =
    ap length (flat_map-append (event_at rules head) front back)
    ∙ length-append (flat_map (event_at rules head) front) (flat_map (event_at rules head) back)

-- a rule that is there has its line, and one that isn't has none
place_lines-some : (s : Subject) (before place : ℕ) (rule : Rule) → slice_get s.rules place ≡ Some rule
    → places_lines s before (place ∷ []) ≡ text_by s before (beside s.source (event_of s.head rule))
unfolding places_lines
place_lines-some s before place rule is =
    ap (λ (found : Option Rule). texts_from (text_by s) before (map (beside s.source) (option_to_list (option_map (event_of s.head) found) ++ []))) is
    ∙ append-nil (text_by s before (beside s.source (event_of s.head rule)))

place_lines-none : (s : Subject) (before place : ℕ) → slice_get s.rules place ≡ None → places_lines s before (place ∷ []) ≡ []
unfolding places_lines
place_lines-none s before place is =
    ap (λ (found : Option Rule). texts_from (text_by s) before (map (beside s.source) (option_to_list (option_map (event_of s.head) found) ++ []))) is

place_count-some : (rules : List Rule) (head : ItemHead) (place : ℕ) (rule : Rule) → slice_get rules place ≡ Some rule → places_count rules head (place ∷ []) ≡ 1
unfolding places_count
place_count-some rules head place rule is = ap (λ (found : Option Rule). length (option_to_list (option_map (event_of head) found) ++ [])) is

place_count-none : (rules : List Rule) (head : ItemHead) (place : ℕ) → slice_get rules place ≡ None → places_count rules head (place ∷ []) ≡ 0
unfolding places_count
place_count-none rules head place is = ap (λ (found : Option Rule). length (option_to_list (option_map (event_of head) found) ++ [])) is

-- what a look at a place tells of the rule there
pub place_there : (rules : List Rule) (place : ℕ) (rule : Bor Rule) → IsItemAt rules place (Some rule) → slice_get rules place ≡ Some rule.now
place_there rules place rule found = slice_get_read rules (length rules) place rule.now refl found.3.0 found.1

pub place_absent : (rules : List Rule) (place : ℕ) (answer : Option (Bor Rule)) → IsItemAt rules place answer → ((rule : Bor Rule) → answer ≡ Some rule → ⊥) → slice_get rules place ≡ None
place_absent rules place None found absent = slice_get_past rules place found.3
place_absent rules place (Some rule) found absent = absurd (absent rule refl)

-- the line of a rule is on its way, or there is none
pub place_shown : {A : Type 0} (s : Subject) (before place : ℕ) (rule : Rule) (old new : Sending) (done : A) → slice_get s.rules place ≡ Some rule
    → Emits (text_by s before (beside s.source (event_of s.head rule))) old new (Ok done) → ShowsPlaces s before (place ∷ []) old new (Ok 1)
place_shown s before place rule old new done is line = record {
  emits = emits_told line (λ known. (tt, place_lines-some s before place rule is));
  counted = sym (place_count-some s.rules s.head place rule is);
}

pub place_passed : (s : Subject) (before place : ℕ) (old : Sending) → slice_get s.rules place ≡ None → ShowsPlaces s before (place ∷ []) old old (Ok 0)
place_passed s before place old is = record {
  emits = emits_none old (λ known. place_lines-none s before place is);
  counted = sym (place_count-none s.rules s.head place is);
}

-- a rule's line was stopped
pub place_part : {A : Type 0} (s : Subject) (before place : ℕ) (rule : Rule) (old new : Sending) (why : WriteFault) → slice_get s.rules place ≡ Some rule
    → Emits {A = A} (text_by s before (beside s.source (event_of s.head rule))) old new (Err why) → ShowsPlaces s before (place ∷ []) old new (Err why)
place_part s before place rule old new why is line = record { emits = emits_stopped line (λ known. (tt, place_lines-some s before place rule is)); counted = tt }

-- the rules at no places are shown
pub places_none : (s : Subject) (before : ℕ) (old : Sending) → ShowsPlaces s before [] old old (Ok 0)
unfolding places_lines places_count
places_none s before old = record { emits = emits_none old (λ known. refl); counted = refl }

-- the lines so far, and then those of the others
places_split : (s : Subject) (before : ℕ) (places : List ℕ) (i : ℕ)
    → places_lines s before places ≡ places_lines s before (take i places) ++ places_lines s (before + places_count s.rules s.head (take i places)) (drop i places)
places_split s before places i = ap (places_lines s before) (sym (take-append-drop i places)) ∙ places_lines-append s before (take i places) (drop i places)

places_more : (s : Subject) (before : ℕ) (places : List ℕ) (i number : ℕ) → i < length places → number ≡ before + places_count s.rules s.head (take i places)
    → places_lines s before (take (i + 1) places) ≡ places_lines s before (take i places) ++ places_lines s number (get_or places i 0 ∷ [])
places_more s before places i number lt at =
    ap (places_lines s before) (take_more places i 0 lt) ∙ places_lines-append s before (take i places) (get_or places i 0 ∷ [])
    ∙ ap (λ (n : ℕ). places_lines s before (take i places) ++ places_lines s n (get_or places i 0 ∷ [])) (sym at)

-- memory was lacking after some places
pub places_nothing : (s : Subject) (before : ℕ) (places : List ℕ) (i count : ℕ) (old middle : Sending)
    → ShowsPlaces s before (take i places) old middle (Ok count) → ShowsPlaces s before places old middle (Err write.NoMemory)
places_nothing s before places i count old middle so_far = record {
  emits = emits_lacking so_far.emits (λ known. (tt, places_lines s (before + places_count s.rules s.head (take i places)) (drop i places), places_split s before places i));
  counted = tt;
}

-- one rule more
pub places_step : (s : Subject) (before : ℕ) (places : List ℕ) (i count one number : ℕ) (old middle new : Sending) → i < length places → number ≡ before + count
    → ShowsPlaces s before (take i places) old middle (Ok count) → ShowsPlaces s number (get_or places i 0 ∷ []) middle new (Ok one)
    → ShowsPlaces s before (take (i + 1) places) old new (Ok (count + one))
places_step s before places i count one number old middle new lt numbered so_far more =
    let at = numbered ∙ ap (λ (n : ℕ). before + n) so_far.counted in record {
      emits = emits_told (emits_both so_far.emits more.emits (places_more s before places i number lt at)) (λ known. (tt, refl));
      counted =
          let first = so_far.counted in
          let second = more.counted in
          let joined = ap (places_count s.rules s.head) (take_more places i 0 lt) ∙ places_count-append s.rules s.head (take i places) (get_or places i 0 ∷ []) in
          omega (arith, first, second, joined);
    }

-- the lines so far came, and then the next one was stopped
pub places_part : (s : Subject) (before : ℕ) (places : List ℕ) (i count number : ℕ) (old middle new : Sending) (why : WriteFault) → i < length places → number ≡ before + count
    → ShowsPlaces s before (take i places) old middle (Ok count) → ShowsPlaces s number (get_or places i 0 ∷ []) middle new (Err why)
    → ShowsPlaces s before places old new (Err why)
places_part s before places i count number old middle new why lt numbered so_far more =
    let at = numbered ∙ ap (λ (n : ℕ). before + n) so_far.counted in record {
      emits = emits_longer (emits_both so_far.emits more.emits (places_more s before places i number lt at)) (λ known. (tt, _, places_split s before places (i + 1)));
      counted = tt;
    }

-- a rule's class is one of the classes
pub class_there : (classes : List Class) (rules : List Rule) (i : ℕ) (rule : Rule) → i < length rules → rule ≡ get_or rules i rule → All (IsSound classes) rules
    → ForSome rule.class (λ class. class < length classes)
class_there classes rules i rule lt is sound = λ place named.
    let own : IsSound classes rule = subst (λ (r : Rule). IsSound classes r) (sym is) (sound i rule lt) in
    MatchOption-at_some ⊤ (λ (p : ℕ). p < length classes) place named own.class

-- ---- items

-- no item was given
pub events_new : (config : Config) (rules : List Rule) (filters : FiltersState) (tally : Tally) → IsGiven config rules [] filters → tally ≡ record { items = 0; hits = 0; alerts = 0 }
    → tally ≡ tally_of config rules []
unfolding tally_of
events_new config rules filters tally given is = is

items_lines-append : (form : AlertForm) (config : Config) (rules : List Rule) (before : List Hits) (front back : List SourcedItem)
    → items_lines form config rules before (front ++ back) ≡ items_lines form config rules before front ++ items_lines form config rules (before ++ whats front) back
unfolding items_lines
items_lines-append form config rules before front back =
    let shown = item_events config rules in
    let text = text_of form config.classes in
    let n = length (trail shown before) in
    let one = carried shown before front in
    let two = carried shown (before ++ whats front) back in
    ap (texts_from text n) (carried-append shown before front back)
    ∙ texts_from-append text n one two
    ∙ ap (λ (m : ℕ). texts_from text n one ++ texts_from text m two) (length-carried shown before front)

-- the subject of an item
abbrev pub subject_for : AlertForm → Config → List Rule → LinkedRecord → Hits → Subject
subject_for form config rules source hits = record { form = form; classes = config.classes; rules = rules; source = source; head = hits.head }

-- by what items are shown
abbrev pub shown_in : AlertForm → Config → List Rule → Shown
shown_in form config rules = record { form = form; config = config; rules = rules }

-- the lines of an item are those of the rules whose events are kept
items_lines-one : (form : AlertForm) (config : Config) (rules : List Rule) (before : List Hits) (source : LinkedRecord) (hits : Hits)
    → items_lines form config rules before (beside source hits ∷ [])
    ≡ places_lines (subject_for form config rules source hits) (length (trail (item_events config rules) before)) (kept config rules (map filtered_item before) (filtered_item hits))
unfolding items_lines places_lines item_events
items_lines-one form config rules before source hits =
    ap (texts_from (text_of form config.classes) (length (trail (item_events config rules) before)))
    (append-nil (map (beside source) (flat_map (event_at rules hits.head) (kept config rules (map filtered_item before) (filtered_item hits)))))

-- a tally by its numbers
pub same_tally : (items items' hits hits' alerts alerts' : ℕ) → items ≡ items' → hits ≡ hits' → alerts ≡ alerts'
    → ◌≡◌ {A = Tally} (record { items = items; hits = hits; alerts = alerts }) (record { items = items'; hits = hits'; alerts = alerts' })
same_tally items items' hits hits' alerts alerts' a b c = cc

-- how many events were counted
tally_alerts : (config : Config) (rules : List Rule) (before : List Hits) (tally : Tally) → tally ≡ tally_of config rules before
    → tally.alerts ≡ length (trail (item_events config rules) before)
unfolding tally_of
tally_alerts config rules before tally is = ap (λ (t : Tally). t.alerts) is

-- what is counted of one item more
tally_of-more : (config : Config) (rules : List Rule) (before : List Hits) (hits : Hits) (count : ℕ) (old : Tally) → old ≡ tally_of config rules before
    → count ≡ places_count rules hits.head (kept config rules (map filtered_item before) (filtered_item hits))
    → ◌≡◌ {A = Tally} (record { items = old.items + 1; hits = old.hits + length hits.rules; alerts = old.alerts + count }) (tally_of config rules (before ++ hits ∷ []))
unfolding tally_of places_count item_events
tally_of-more config rules before hits count old is counted =
    let items : old.items ≡ length before = ap (λ (t : Tally). t.items) is in
    let found : old.hits ≡ hit_count before = ap (λ (t : Tally). t.hits) is in
    let alerts : old.alerts ≡ length (trail (item_events config rules) before) = ap (λ (t : Tally). t.alerts) is in
    let own : List Event = item_events config rules before hits in
    let joined =
    ap length (sym (trail-more (item_events config rules) before hits))
    ∙ length-append (trail (item_events config rules) before) own in
    same_tally (old.items + 1) (length (before ++ hits ∷ [])) (old.hits + length hits.rules) (hit_count (before ++ hits ∷ []))
    (old.alerts + count) (length (trail (item_events config rules) (before ++ hits ∷ [])))
    (let l = length-append before (hits ∷ []) in omega (arith, items, l))
    (ap (λ (n : ℕ). n + length hits.rules) found ∙ ap (λ (n : ℕ). hit_count before + n) (sym (zero-add (length hits.rules)))
    ∙ sym (sum_by-append (λ (h : Hits). length h.rules) before (hits ∷ [])))
    (omega (arith, alerts, counted, joined))

-- a tally with one item more
abbrev tally_with : Tally → ℕ → ℕ → Tally
tally_with old size count = record { items = old.items + 1; hits = old.hits + size; alerts = old.alerts + count }

-- the lines of an item, by what was counted before it and by what is kept of it
item_lines : (form : AlertForm) (config : Config) (rules : List Rule) (source : LinkedRecord) (hits : Hits) (before : List Hits)
    (tally : Tally) (places : List ℕ)
    → tally ≡ tally_of config rules before
    → places ≡ kept config rules (map filtered_item before) (filtered_item hits)
    → places_lines (subject_for form config rules source hits) tally.alerts places ≡
    items_lines form config rules before (beside source hits ∷ [])
item_lines form config rules source hits before tally places holds are =
    let s = subject_for form config rules source hits in
    ap (λ (n : ℕ). places_lines s n places) (tally_alerts config rules before tally holds)
    ∙ ap (places_lines s (length (trail (item_events config rules) before))) are
    ∙ sym (items_lines-one form config rules before source hits)

item_lines_by : (form : AlertForm) (config : Config) (rules : List Rule) (source : LinkedRecord) (hits : Hits) (old : AlertWriter) (after : FiltersState) (places : List ℕ)
    → Passes config rules old.filters [] (filtered_item hits) after places → (before : Earlier config rules old)
    → items_lines form config rules before.items (beside source hits ∷ []) ≡ places_lines (subject_for form config rules source hits) old.tally.alerts places
item_lines_by form config rules source hits old after places passes before =
    sym (item_lines form config rules source hits before.items old.tally places before.hold.tally (passes (map filtered_item before.items) before.hold.given).1)

-- an item was given to the filters, and the lines of what they keep of it are on their way
pub shows_one : (form : AlertForm) (config : Config) (rules : List Rule) (source : LinkedRecord) (hits : Hits) (old new : Showing) (places : List ℕ) (count size : ℕ)
    → Passes config rules old.writer.filters [] (filtered_item hits) new.writer.filters places
    → ShowsPlaces (subject_for form config rules source hits) old.writer.tally.alerts places (sending_of old) (sending_of new) (Ok count)
    → new.writer.tally ≡ record { items = old.writer.tally.items + 1; hits = old.writer.tally.hits + size; alerts = old.writer.tally.alerts + count } → size ≡ length hits.rules
    → Shows {A = Unit {0}} (shown_in form config rules) (beside source hits ∷ []) old new (Ok tt)
shows_one form config rules source hits old new places count size passes shown tally is = record {
  holds = λ before holds.
      let passed = passes (map filtered_item before) holds.given in record {
        given = subst (λ (x : List Item). IsGiven config rules x new.writer.filters) (sym (map-append filtered_item before (hits ∷ []))) passed.0;
        tally = tally
            ∙ ap (λ (n : ℕ). tally_with old.writer.tally n count) is
            ∙ tally_of-more config rules before hits count old.writer.tally holds.tally (shown.counted ∙ ap (places_count rules hits.head) passed.1);
      };
  emits = emits_told shown.emits (λ before. (tt, item_lines_by form config rules source hits old.writer new.writer.filters places passes before));
}

-- memory was lacking before it was shown
pub shows_nothing : (form : AlertForm) (config : Config) (rules : List Rule) (items : List SourcedItem) (old new : Showing) → new.written ≡ old.written → new.faults ≡ old.faults
    → Shows {A = Unit {0}} (shown_in form config rules) items old new (Err write.NoMemory)
shows_nothing form config rules items old new written faults = record { holds = tt; emits = emits_nothing _ (sending_of old) (sending_of new) written faults }

-- an item was stopped while its lines were shown
pub shows_part_of : (form : AlertForm) (config : Config) (rules : List Rule) (source : LinkedRecord) (hits : Hits) (old new : Showing) (after : FiltersState) (places : List ℕ) (why : WriteFault)
    → Passes config rules old.writer.filters [] (filtered_item hits) after places
    → ShowsPlaces (subject_for form config rules source hits) old.writer.tally.alerts places (sending_of old) (sending_of new) (Err why)
    → Shows {A = Unit {0}} (shown_in form config rules) (beside source hits ∷ []) old new (Err why)
shows_part_of form config rules source hits old new after places why passes shown = record {
  holds = tt;
  emits = emits_stopped shown.emits (λ before. (tt, item_lines_by form config rules source hits old.writer after places passes before));
}

-- an item's lines came, and it couldn't be counted
pub shows_uncounted : (form : AlertForm) (config : Config) (rules : List Rule) (source : LinkedRecord) (hits : Hits) (old new : Showing) (after : FiltersState) (places : List ℕ) (count : ℕ)
    → Passes config rules old.writer.filters [] (filtered_item hits) after places
    → ShowsPlaces (subject_for form config rules source hits) old.writer.tally.alerts places (sending_of old) (sending_of new) (Ok count)
    → Shows {A = Unit {0}} (shown_in form config rules) (beside source hits ∷ []) old new (Err write.NoMemory)
shows_uncounted form config rules source hits old new after places count passes shown = record {
  holds = tt;
  emits = emits_lacking shown.emits (λ before. (tt, [], item_lines_by form config rules source hits old.writer after places passes before ∙ sym (append-nil _)));
}

-- no item came
items_lines-none : (form : AlertForm) (config : Config) (rules : List Rule) (before : List Hits) → items_lines form config rules before [] ≡ []
unfolding items_lines
items_lines-none form config rules before = refl

pub shows_none : (form : AlertForm) (config : Config) (rules : List Rule) (old : Showing) → Shows {A = Unit {0}} (shown_in form config rules) [] old old (Ok tt)
shows_none form config rules old = record {
  holds = λ before holds. subst (λ (x : List Hits). IsWriterAfter config rules x old.writer) (sym (append-nil before)) holds;
  emits = emits_none (sending_of old) (λ before. items_lines-none form config rules before.items);
}

-- items came, and then others, or a part of their lines
pub shows_then : (form : AlertForm) (config : Config) (rules : List Rule) (front back : List SourcedItem) (old middle new : Showing) (done : Unit {0}) (outcome : Result (Unit {0}) WriteFault)
    → Shows (shown_in form config rules) front old middle (Ok done) → Shows (shown_in form config rules) back middle new outcome → Shows (shown_in form config rules) (front ++ back) old new outcome
shows_then form config rules front back old middle new done outcome one two = record {
  holds = by_outcome outcome two.holds;
  emits =
      emits_then one.emits two.emits
      (λ before. (
        before,
        record { items = before.items ++ whats front; hold = one.holds before.items before.hold },
        items_lines-append form config rules before.items front back,
      ));
}
  where
    by_outcome : (so : Result (Unit {0}) WriteFault)
        → OnOk so ((before : List Hits) → IsWriterAfter config rules before middle.writer → IsWriterAfter config rules (before ++ whats back) new.writer)
        → OnOk so ((before : List Hits) → IsWriterAfter config rules before old.writer → IsWriterAfter config rules (before ++ whats (front ++ back)) new.writer)
    by_outcome (Ok more) on = λ before holds.
        subst (λ (x : List Hits). IsWriterAfter config rules x new.writer)
        (append_assoc before (whats front) (whats back) ∙ ap (λ (x : List Hits). before ++ x) (sym (whats-append front back)))
        (on (before ++ whats front) (one.holds before holds))
    by_outcome (Err why) on = tt

-- a part of the lines of items is one of those of more items
shows_longer : (form : AlertForm) (config : Config) (rules : List Rule) (front back : List SourcedItem) (old new : Showing) (why : WriteFault)
    → Shows {A = Unit {0}} (shown_in form config rules) front old new (Err why) → Shows {A = Unit {0}} (shown_in form config rules) (front ++ back) old new (Err why)
shows_longer form config rules front back old new why one = record {
  holds = tt;
  emits = emits_longer one.emits (λ before. (before, items_lines form config rules (before.items ++ whats front) back, items_lines-append form config rules before.items front back));
}

-- ---- the items of a job, beside one record

items_more : (source : LinkedRecord) (items : List Hits) (i : ℕ) (hits : Hits) → i < length items → hits ≡ get_or items i hits
    → map (beside source) (take i items) ++ beside source hits ∷ [] ≡ map (beside source) (take (i + 1) items)
items_more source items i hits lt is =
    sym (map-append (beside source) (take i items) (hits ∷ []))
    ∙ ap (map (beside source)) (ap (λ (h : Hits). take i items ++ h ∷ []) is ∙ sym (take_more items i hits lt))

-- the items so far came, and then the next one
pub items_step : (form : AlertForm) (config : Config) (rules : List Rule) (source : LinkedRecord) (items : List Hits) (i : ℕ)
    (hits : Hits) (old middle new : Showing) (done : Unit {0}) (outcome : Result (Unit {0}) WriteFault)
    → i < length items
    → hits ≡ get_or items i hits
    → Shows (shown_in form config rules) (map (beside source) (take i items)) old middle (Ok done)
    → Shows (shown_in form config rules) (beside source hits ∷ []) middle new outcome
    → Shows (shown_in form config rules) (map (beside source) (take (i + 1) items)) old new outcome
items_step form config rules source items i hits old middle new done outcome lt is so_far more =
    subst (λ (x : List SourcedItem). Shows (shown_in form config rules) x old new outcome) (items_more source items i hits lt is)
    (shows_then form config rules (map (beside source) (take i items)) (beside source hits ∷ []) old middle new done outcome so_far more)

pub items_part : (form : AlertForm) (config : Config) (rules : List Rule) (source : LinkedRecord) (items : List Hits) (i : ℕ)
    (hits : Hits) (old middle new : Showing) (done : Unit {0}) (why : WriteFault)
    → i < length items
    → hits ≡ get_or items i hits
    → Shows (shown_in form config rules) (map (beside source) (take i items)) old middle (Ok done)
    → Shows {A = Unit {0}} (shown_in form config rules) (beside source hits ∷ []) middle new (Err why)
    → Shows {A = Unit {0}} (shown_in form config rules) (map (beside source) items) old new (Err why)
items_part form config rules source items i hits old middle new done why lt is so_far part =
    subst (λ (x : List SourcedItem). Shows {A = Unit {0}} (shown_in form config rules) x old new (Err why))
    (sym (map-append (beside source) (take (i + 1) items) (drop (i + 1) items)) ∙ ap (map (beside source)) (take-append-drop (i + 1) items))
    (shows_longer form config rules (map (beside source) (take (i + 1) items)) (map (beside source) (drop (i + 1) items)) old new why
    (items_step form config rules source items i hits old middle new done (Err why) lt is so_far part))

-- ---- the items of jobs

-- the items of the first jobs of a batch
abbrev told_of : (ℕ → LinkedRecord) → List JobHits → List SourcedItem
told_of source jobs = sourced_items (by_place source 0 jobs)

abbrev told_job : Beside LinkedRecord JobHits → List SourcedItem
told_job b = map (beside b.source) b.what.items

told_more : (source : ℕ → LinkedRecord) (jobs : List JobHits) (i : ℕ) (job : JobHits) → i < length jobs → job ≡ get_or jobs i job
    → told_of source (take i jobs) ++ map (beside (source i)) job.items ≡ told_of source (take (i + 1) jobs)
told_more source jobs i job lt is =
    let front = take i jobs in
    let size : i ≡ 0 + length front = let l = length-take-le i jobs (omega (arith, lt)) in omega (arith, l) in
    ap (λ (x : List SourcedItem). told_of source front ++ x)
    (ap (λ (n : ℕ). map (beside (source n)) job.items) size ∙ sym (append-nil (map (beside (source (0 + length front))) job.items)))
    ∙ sym (flat_map-append told_job (by_place source 0 front) (by_place source (0 + length front) (job ∷ [])))
    ∙ ap sourced_items (sym (by_place-append source 0 front (job ∷ [])))
    ∙ ap (told_of source) (ap (λ (j : JobHits). front ++ j ∷ []) is ∙ sym (take_more jobs i job lt))

pub jobs_step : (form : AlertForm) (config : Config) (rules : List Rule) (source : ℕ → LinkedRecord) (jobs : List JobHits) (i : ℕ)
    (job : JobHits) (old middle new : Showing) (done : Unit {0}) (outcome : Result (Unit {0}) WriteFault)
    → i < length jobs
    → job ≡ get_or jobs i job
    → Shows (shown_in form config rules) (sourced_items (by_place source 0 (take i jobs))) old middle (Ok done)
    → Shows (shown_in form config rules) (map (beside (source i)) job.items) middle new outcome
    → Shows (shown_in form config rules) (sourced_items (by_place source 0 (take (i + 1) jobs))) old new outcome
jobs_step form config rules source jobs i job old middle new done outcome lt is so_far more =
    subst (λ (x : List SourcedItem). Shows (shown_in form config rules) x old new outcome) (told_more source jobs i job lt is)
    (shows_then form config rules (told_of source (take i jobs)) (map (beside (source i)) job.items) old middle new done outcome so_far more)

pub jobs_part : (form : AlertForm) (config : Config) (rules : List Rule) (source : ℕ → LinkedRecord) (jobs : List JobHits) (i : ℕ)
    (job : JobHits) (old middle new : Showing) (done : Unit {0}) (why : WriteFault)
    → i < length jobs
    → job ≡ get_or jobs i job
    → Shows (shown_in form config rules) (sourced_items (by_place source 0 (take i jobs))) old middle (Ok done)
    → Shows {A = Unit {0}} (shown_in form config rules) (map (beside (source i)) job.items) middle new (Err why)
    → Shows {A = Unit {0}} (shown_in form config rules) (sourced_items (by_place source 0 jobs)) old new (Err why)
jobs_part form config rules source jobs i job old middle new done why lt is so_far part =
    let front = take (i + 1) jobs in
    let back = drop (i + 1) jobs in
    let later = sourced_items (by_place source (0 + length front) back) in
    subst (λ (x : List SourcedItem). Shows {A = Unit {0}} (shown_in form config rules) x old new (Err why))
    (sym (flat_map-append told_job (by_place source 0 front) (by_place source (0 + length front) back))
    ∙ ap sourced_items (sym (by_place-append source 0 front back)) ∙ ap (told_of source) (take-append-drop (i + 1) jobs))
    (shows_longer form config rules (told_of source front) later old new why (jobs_step form config rules source jobs i job old middle new done (Err why) lt is so_far part))
