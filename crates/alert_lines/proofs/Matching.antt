-- The matches of jobs are shown in the place of all their items.
use Rattle.std.proofs.Common.{◌≡◌, ℕ, ◌+◌, Bool, true, false, cond, List, [], ◌∷◌, ◌++◌, Ok, Err, length, map, refl, sym, ap, subst, ◌∙◌, arith, length-append}
use Rattle.std.specs.Prelude.{sum_by}
use Rattle.std.specs.List.{flat_map}
use Rattle.std.proofs.lemmas.List.{append-nil, length-map}
use Rattle.std.proofs.lemmas.List.Elements.{filter-append}
use Rattle.std.proofs.lemmas.List.Sums.{sum_by-append}
use Rattle.edge_io.specs.Along.{trail}
use Rattle.conf_types.specs.declared.config.Config.{Config}
use Rattle.rule_types.specs.declared.rule.Rule.{Rule}
use Rattle.event_filters.specs.Events.{Item, matched as matched_items}
use Rattle.event_filters.proofs.Unmatched.{IsGiven-matched, kept-matched, kept-none, trail-passed, unmatched-none}
use Rattle.flow_lanes.specs.declared.answer.Hits.{Hits}
use Rattle.flow_lanes.specs.declared.answer.JobHits.{JobHits}
use Rattle.flow_lanes.specs.declared.answer.Matches.{Matches}
use Rattle.flow_lanes.specs.ItemHits.{is_matched, matched, matched_entry}
use Rattle.record_jobs.specs.Way.{LinkedRecord}
use Rattle.alert_lines.specs.declared.tally.Tally.{Tally}
use Rattle.command_words.specs.declared.asked.AlertForm.{AlertForm}
use Rattle.alert_lines.specs.declared.fault.WriteFault.{WriteFault}
use Rattle.alert_lines.specs.declared.fault.WriteFault.TheVariants as write
use Rattle.alert_lines.specs.Beside.{beside, by_place, carried, whats}
use Rattle.alert_lines.specs.Events.{hit_count}
use Rattle.alert_lines.specs.Lines.{text_of, texts_from}
use Rattle.alert_lines.specs.Matching.{AreMatchesOf, ShowsMatches, matched_sourced}
use Rattle.alert_lines.specs.Showing.{IsWriterAfter, Showing, Shows, SourcedItem, sending_of, items_lines, tally_of}
use Rattle.alert_lines.specs.Sourcing.{sourced_items}
use Rattle.alert_lines.specs.Events.{event_at, filtered_item, item_events}
use Rattle.alert_lines.proofs.Emitting.{emits_nothing, emits_stopped, emits_told}
use Rattle.alert_lines.proofs.Showing.{same_tally, shown_in}

-- ---- items that no rule matches

-- the filters see the same matched items
filtered-matched : (items : List Hits) → matched_items (map filtered_item items) ≡ map filtered_item (matched items)
filtered-matched [] = refl
filtered-matched (item ∷ items) = by_test (is_matched item) (filtered-matched items)
  where
    by_test : (b : Bool) → matched_items (map filtered_item items) ≡ map filtered_item (matched items)
        → cond b (filtered_item item ∷ matched_items (map filtered_item items)) (matched_items (map filtered_item items)) ≡ map filtered_item (cond b (item ∷ matched items) (matched items))
    by_test true rest = ap (λ (later : List Item). filtered_item item ∷ later) rest
    by_test false rest = rest

filtered-same : (xs ys : List Hits) → matched xs ≡ matched ys → matched_items (map filtered_item xs) ≡ matched_items (map filtered_item ys)
filtered-same xs ys same = filtered-matched xs ∙ ap (map filtered_item) same ∙ sym (filtered-matched ys)

-- the events of an item
item_events-none : (config : Config) (rules : List Rule) (before : List Hits) (item : Hits) → is_matched item ≡ false → item_events config rules before item ≡ []
unfolding item_events
item_events-none config rules before item is =
    ap (flat_map (event_at rules item.head)) (kept-none config rules (map filtered_item before) (filtered_item item) (unmatched-none item.rules is))

item_events-same : (config : Config) (rules : List Rule) (xs ys : List Hits) (item : Hits) → matched xs ≡ matched ys → item_events config rules xs item ≡ item_events config rules ys item
unfolding item_events
item_events-same config rules xs ys item same =
    ap (flat_map (event_at rules item.head)) (kept-matched config rules (map filtered_item xs) (map filtered_item ys) (filtered_item item) (filtered-same xs ys same))

events-same : (config : Config) (rules : List Rule) (xs ys : List Hits) → matched xs ≡ matched ys → trail (item_events config rules) xs ≡ trail (item_events config rules) ys
events-same config rules = trail-passed is_matched (item_events config rules) (item_events-none config rules) (item_events-same config rules)

-- the events of items beside their records are those of the items that a rule matches
module _ (config : Config) (rules : List Rule) where
  after : (b : Bool) (item : Hits) → is_matched item ≡ b → (before : List Hits) → matched (before ++ item ∷ []) ≡ matched before ++ cond b (item ∷ []) []
  after b item is before = filter-append is_matched before (item ∷ []) ∙ ap (λ c. matched before ++ cond c (item ∷ []) []) is

  carried-matched : (before other : List Hits) (items : List SourcedItem)
      → matched before ≡ matched other
      → carried (item_events config rules) before items ≡ carried (item_events config rules) other (matched_sourced items)
  carried-matched before other [] same = refl
  carried-matched before other (b ∷ items) same =
      by_test (is_matched b.what) refl
      (λ (at : List Hits) (left : matched (before ++ b.what ∷ []) ≡ matched at). carried-matched
      (before ++ b.what ∷ []) at items left)
    where
      by_test : (t : Bool)
          → is_matched b.what ≡ t
          → ((at : List Hits) → matched (before ++ b.what ∷ []) ≡ matched at →
          carried (item_events config rules) (before ++ b.what ∷ []) items ≡
          carried (item_events config rules) at (matched_sourced items))
          → map (beside b.source) (item_events config rules before b.what) ++
          carried (item_events config rules) (before ++ b.what ∷ []) items
          ≡ carried (item_events config rules) other
          (cond (is_matched b.what) (b ∷ matched_sourced items) (matched_sourced items))
      by_test true is rest =
          let both : matched (before ++ b.what ∷ []) ≡ matched (other ++ b.what ∷ []) = after true b.what is before ∙ ap (λ front. front ++ b.what ∷ []) same ∙ sym (after true b.what is other) in
          (λ i. map (beside b.source) (item_events-same config rules before other b.what same i) ++ rest (other ++ b.what ∷ []) both i)
          ∙ ap (λ c. carried (item_events config rules) other (cond c (b ∷ matched_sourced items) (matched_sourced items))) (sym is)
      by_test false is rest =
          let left : matched (before ++ b.what ∷ []) ≡ matched other = after false b.what is before ∙ append-nil (matched before) ∙ same in
          ap (λ events. map (beside b.source) events ++ carried (item_events config rules) (before ++ b.what ∷ []) items) (item_events-none config rules before b.what is)
          ∙ rest other left
          ∙ ap (λ c. carried (item_events config rules) other (cond c (b ∷ matched_sourced items) (matched_sourced items))) (sym is)

-- the lines of items are those of the items that a rule matches
items_lines-matched : (form : AlertForm) (config : Config) (rules : List Rule) (before : List Hits) (items : List SourcedItem)
    → items_lines form config rules before items ≡ items_lines form config rules before (matched_sourced items)
unfolding items_lines
items_lines-matched form config rules before items =
    ap (texts_from (text_of form config.classes) (length (trail (item_events config rules) before))) (carried-matched config rules before before items refl)

-- which of some items are matched
matched-twice : (items : List Hits) → matched (matched items) ≡ matched items
matched-twice [] = refl
matched-twice (item ∷ items) = by_test (is_matched item) refl (matched-twice items)
  where
    by_test : (b : Bool)
        → is_matched item ≡ b
        → matched (matched items) ≡ matched items
        → matched (cond (is_matched item) (item ∷ matched items) (matched items)) ≡
        cond (is_matched item) (item ∷ matched items) (matched items)
    by_test true is rest =
        ap (λ c. matched (cond c (item ∷ matched items) (matched items))) is
        ∙ ap (λ c. cond c (item ∷ matched (matched items)) (matched (matched items))) is
        ∙ ap (λ (later : List Hits). item ∷ later) rest
        ∙ ap (λ c. cond c (item ∷ matched items) (matched items)) (sym is)
    by_test false is rest =
        ap (λ c. matched (cond c (item ∷ matched items) (matched items))) is
        ∙ rest
        ∙ ap (λ c. cond c (item ∷ matched items) (matched items)) (sym is)

whats-matched : (items : List SourcedItem) → whats (matched_sourced items) ≡ matched (whats items)
whats-matched [] = refl
whats-matched (b ∷ items) = by_test (is_matched b.what) (whats-matched items)
  where
    by_test : (t : Bool)
        → whats (matched_sourced items) ≡ matched (whats items)
        → whats (cond t (b ∷ matched_sourced items) (matched_sourced items)) ≡
        cond t (b.what ∷ matched (whats items)) (matched (whats items))
    by_test true rest = ap (λ (later : List Hits). b.what ∷ later) rest
    by_test false rest = rest

after-matched : (before : List Hits) (items : List SourcedItem) → matched (before ++ whats (matched_sourced items)) ≡ matched (before ++ whats items)
after-matched before items =
    filter-append is_matched before (whats (matched_sourced items))
    ∙ ap (λ (later : List Hits). matched before ++ later) (ap matched (whats-matched items) ∙ matched-twice (whats items))
    ∙ sym (filter-append is_matched before (whats items))

-- how many rules match them
hit_count-matched : (items : List Hits) → hit_count items ≡ hit_count (matched items)
hit_count-matched [] = refl
hit_count-matched (item ∷ items) = by_test (is_matched item) refl (hit_count-matched items)
  where
    by_test : (b : Bool) → is_matched item ≡ b → hit_count items ≡ hit_count (matched items) → hit_count (item ∷ items) ≡ hit_count (cond (is_matched item) (item ∷ matched items) (matched items))
    by_test true is rest =
        sum_by-append (λ (h : Hits). length h.rules) (item ∷ []) items
        ∙ ap (λ (n : ℕ). hit_count (item ∷ []) + n) rest
        ∙ sym (sum_by-append (λ (h : Hits). length h.rules) (item ∷ []) (matched items))
        ∙ ap (λ c. hit_count (cond c (item ∷ matched items) (matched items))) (sym is)
    by_test false is rest =
        let joined : hit_count (item ∷ items) ≡ hit_count (item ∷ []) + hit_count items = sum_by-append (λ (h : Hits). length h.rules) (item ∷ []) items in
        let none : hit_count (item ∷ []) ≡ 0 = ap (λ (places : List ℕ). hit_count (record { head = item.head; rules = places } ∷ [])) (unmatched-none item.rules is) in
        (omega (arith, joined, none, rest)) ∙ ap (λ c. hit_count (cond c (item ∷ matched items) (matched items))) (sym is)

hit_count-same : (xs ys : List Hits) → matched xs ≡ matched ys → hit_count xs ≡ hit_count ys
hit_count-same xs ys same = hit_count-matched xs ∙ ap hit_count same ∙ sym (hit_count-matched ys)

-- ---- what is shown

-- a showing with another count of items
abbrev pub with_items : Showing → ℕ → Showing
with_items showing count = record {
  writer = record (showing.writer) { tally = record (showing.writer.tally) { items = count } };
  written = showing.written;
  faults = showing.faults;
}

-- the matched items were given, and all were counted
holds_matched : (config : Config) (rules : List Rule) (before : List Hits) (items : List SourcedItem) (old new : Showing) (count : ℕ) → count ≡ old.writer.tally.items + length items
    → IsWriterAfter config rules before old.writer → IsWriterAfter config rules (before ++ whats (matched_sourced items)) new.writer
    → IsWriterAfter config rules (before ++ whats items) (with_items new count).writer
unfolding tally_of
holds_matched config rules before items old new count counted holds shown =
    let few : List Hits = before ++ whats (matched_sourced items) in
    let all : List Hits = before ++ whats items in
    let same : matched few ≡ matched all = after-matched before items in
    let so_far : old.writer.tally.items ≡ length before = ap (λ (t : Tally). t.items) holds.tally in
    let joined : length all ≡ length before + length (whats items) = length-append before (whats items) in
    let sized : length (whats items) ≡ length items = length-map items (λ (b : SourcedItem). b.what) in
    record {
      given = IsGiven-matched config rules (map filtered_item few) (map filtered_item all) new.writer.filters (filtered-same few all same) shown.given;
      tally = same_tally count (length all) new.writer.tally.hits (hit_count all) new.writer.tally.alerts (length (trail (item_events config rules) all))
          (omega (arith, counted, so_far, joined, sized))
          (ap (λ (t : Tally). t.hits) shown.tally ∙ hit_count-same few all same)
          (ap (λ (t : Tally). t.alerts) shown.tally ∙ ap length (events-same config rules few all same));
    }

-- ---- the items of jobs

beside-matched : (source : LinkedRecord) (items : List Hits) → map (beside source) (matched items) ≡ matched_sourced (map (beside source) items)
beside-matched source [] = refl
beside-matched source (item ∷ items) = by_test (is_matched item) (beside-matched source items)
  where
    by_test : (b : Bool) → map (beside source) (matched items) ≡ matched_sourced (map (beside source) items)
        → map (beside source) (cond b (item ∷ matched items) (matched items)) ≡ cond b (beside source item ∷ matched_sourced (map (beside source) items)) (matched_sourced (map (beside source) items))
    by_test true rest = ap (λ (later : List SourcedItem). beside source item ∷ later) rest
    by_test false rest = rest

told-matched : (source : ℕ → LinkedRecord) (place : ℕ) (jobs : List JobHits)
    → sourced_items (by_place source place (map matched_entry jobs)) ≡
    matched_sourced (sourced_items (by_place source place jobs))
told-matched source place [] = refl
told-matched source place (job ∷ jobs) =
    (λ i. beside-matched (source place) job.items i ++ told-matched source (place + 1) jobs i)
    ∙ sym (filter-append (λ (told : SourcedItem). is_matched told.what) (map (beside (source place)) job.items) (sourced_items (by_place source (place + 1) jobs)))

length-told : (source : ℕ → LinkedRecord) (place : ℕ) (jobs : List JobHits) → length (sourced_items (by_place source place jobs)) ≡ sum_by (λ (job : JobHits). length job.items) jobs
length-told source place [] = refl
length-told source place (job ∷ jobs) =
    let own : List SourcedItem = map (beside (source place)) job.items in
    let joined : length (own ++ sourced_items (by_place source (place + 1) jobs))
    ≡ length own + length (sourced_items (by_place source (place + 1) jobs)) =
    length-append own (sourced_items (by_place source (place + 1) jobs)) in
    let sized : length own ≡ length job.items = length-map job.items (beside (source place)) in
    let rest = length-told source (place + 1) jobs in
    let summed : sum_by (λ (j : JobHits). length j.items) (job ∷ jobs)
    ≡ sum_by (λ (j : JobHits). length j.items) (job ∷ []) + sum_by (λ (j : JobHits). length j.items) jobs =
    sum_by-append (λ (j : JobHits). length j.items) (job ∷ []) jobs in
    omega (arith, joined, sized, rest, summed)

-- ---- the matches of jobs

-- the matches are the matched ones of all items
few_of_all : (source : ℕ → LinkedRecord) (found : Matches) (jobs : List JobHits) → AreMatchesOf jobs found
    → sourced_items (by_place source 0 found.hits.items) ≡ matched_sourced (sourced_items (by_place source 0 jobs))
few_of_all source found jobs are = ap (λ (hits : List JobHits). sourced_items (by_place source 0 hits)) are.hits ∙ told-matched source 0 jobs

-- the matches have the lines of all items
matches_lines : (form : AlertForm) (config : Config) (rules : List Rule) (source : ℕ → LinkedRecord) (found : Matches) (before : List Hits) (jobs : List JobHits) → AreMatchesOf jobs found
    → items_lines form config rules before (sourced_items (by_place source 0 jobs)) ≡ items_lines form config rules before (sourced_items (by_place source 0 found.hits.items))
matches_lines form config rules source found before jobs are =
    items_lines-matched form config rules before (sourced_items (by_place source 0 jobs)) ∙ ap (items_lines form config rules before) (sym (few_of_all source found jobs are))

pub shows_matches : (form : AlertForm) (config : Config) (rules : List Rule) (source : ℕ → LinkedRecord) (found : Matches)
    (old new : Showing) (done : Unit {0}) (count : ℕ)
    → count ≡ old.writer.tally.items + found.items
    → Shows (shown_in form config rules) (sourced_items (by_place source 0 found.hits.items)) old new (Ok done)
    → ShowsMatches {A = Unit {0}} (shown_in form config rules) source found old (with_items new count) (Ok tt)
shows_matches form config rules source found old new done count counted shows = record {
  holds = λ jobs are before holds.
      let all : List SourcedItem = sourced_items (by_place source 0 jobs) in
      holds_matched config rules before all old new count (counted ∙ ap (λ (n : ℕ). old.writer.tally.items + n) (are.items ∙ sym (length-told source 0 jobs))) holds
      (subst (λ (x : List SourcedItem). IsWriterAfter config rules (before ++ whats x) new.writer) (few_of_all source found jobs are) (shows.holds before holds));
  emits = emits_told shows.emits (λ known. (known.before, matches_lines form config rules source found known.before.items known.jobs known.are));
}

pub matches_part : (form : AlertForm) (config : Config) (rules : List Rule) (source : ℕ → LinkedRecord) (found : Matches) (old new : Showing) (why : WriteFault)
    → Shows {A = Unit {0}} (shown_in form config rules) (sourced_items (by_place source 0 found.hits.items)) old new (Err why)
    → ShowsMatches {A = Unit {0}} (shown_in form config rules) source found old new (Err why)
matches_part form config rules source found old new why shows = record {
  holds = tt;
  emits = emits_stopped shows.emits (λ known. (known.before, matches_lines form config rules source found known.before.items known.jobs known.are));
}

pub matches_nothing : (form : AlertForm) (config : Config) (rules : List Rule) (source : ℕ → LinkedRecord) (found : Matches) (old : Showing)
    → ShowsMatches {A = Unit {0}} (shown_in form config rules) source found old old (Err write.NoMemory)
matches_nothing form config rules source found old = record { holds = tt; emits = emits_nothing _ (sending_of old) (sending_of old) refl refl }
