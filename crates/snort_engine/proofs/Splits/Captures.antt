-- A part of a capture that is split by pairs of addresses shows what the whole shows of it.
use Rattle.std.proofs.Common.{◌≡◌, zero, suc, Bool, true, false, cond, List, [], ◌∷◌, ◌++◌, Option, Some, map, refl, sym, ap, subst, ◌∙◌, append_assoc, append-nil, arith}
use Rattle.std.specs.Prelude.{Contains}
use Rattle.std.specs.List.{filter}
use Rattle.std.proofs.lemmas.List.Elements.{Contains-append_left, Contains-append_right, filter-append}
use Rattle.edge_io.specs.Along.{trail, trail_from}
use Rattle.edge_io.proofs.Along.{trail-append}
use Rattle.packet_decode.specs.declared.item.ItemHead.{ItemHead}
use Rattle.event_filters.specs.declared.counting.CountKey.{CountKey}
use Rattle.event_filters.specs.Counting.{Event as Counted}
use Rattle.event_filters.specs.Events.{event_key, event_of, global_place, match_key, own_place}
use Rattle.flow_lanes.specs.declared.answer.Hits.{Hits}
use Rattle.record_jobs.specs.Splitting.{Part, of_part, record_items}
use Rattle.record_jobs.specs.Way.{LinkedRecord}
use Rattle.record_jobs.proofs.Splits.Items.{same-items}
use Rattle.alert_lines.specs.Beside.{Beside, beside, own, whats}
use Rattle.snort_engine.specs.Course.{Plan}
use Rattle.snort_engine.specs.SplitCaptures.{AreCountedApart, IsCountedApart, IsShownApart, alerts_of, items_beside}
use Rattle.alert_lines.specs.Events.{Event, item_events}
use Rattle.snort_engine.specs.Trace.{Open, detection_of, job_items, jobs_way, record_events, trace}
use Rattle.alert_lines.proofs.Beside.{whats-own}
use Rattle.snort_engine.proofs.Splits.Filters.{Apart, Each, IsOwn, OfHits, events-own, list-own, mine, mine-beside}

-- ---- answers beside their inputs

filter-kept : {X : Type 0} (test : X → Bool) (before : List X) (x : X) (rest : List X) → test x ≡ true → filter test (before ++ x ∷ rest) ≡ filter test before ++ x ∷ filter test rest
filter-kept test before x rest is = filter-append test before (x ∷ rest) ∙ ap (λ (b : Bool). filter test before ++ cond b (x ∷ filter test rest) (filter test rest)) is

filter-left : {X : Type 0} (test : X → Bool) (before : List X) (x : X) → test x ≡ false → filter test (before ++ x ∷ []) ≡ filter test before
filter-left test before x isnt = filter-append test before (x ∷ []) ∙ ap (λ (b : Bool). filter test before ++ cond b (x ∷ []) []) isnt ∙ append-nil (filter test before)

-- where an input of a part has the answers that it has after the part's own earlier inputs, the part has its answers
module _ {S A : Type 0} (f : List S → S → List A) (part : S → Bool) (all : List S)
    (local : (before : List S) (x : S) (rest : List S) → before ++ x ∷ rest ≡ all → part x ≡ true → f (filter part before) x ≡ f before x) where
  told-part : (before rest : List S) → before ++ rest ≡ all
      → trail_from (own f) (filter part before) (filter part rest) ≡ filter (λ (b : Beside S A). part b.source) (trail_from (own f) before rest)
  told-part before [] are = refl
  told-part before (x ∷ rest) are = by_part (part x) refl (told-part (before ++ x ∷ []) rest (append_assoc before (x ∷ []) rest ∙ are))
    where
      later : List (Beside S A)
      later = trail_from (own f) (before ++ x ∷ []) rest

      split : filter (λ (b : Beside S A). part b.source) (trail_from (own f) before (x ∷ rest)) ≡ cond (part x) (own f before x) [] ++ filter (λ (b : Beside S A). part b.source) later
      split =
          filter-append (λ (b : Beside S A). part b.source) (own f before x) later
          ∙ ap (λ (front : List (Beside S A)). front ++ filter (λ (b : Beside S A). part b.source) later) (mine-beside part x (f before x))

      by_part : (b : Bool) → part x ≡ b
          → trail_from (own f) (filter part (before ++ x ∷ [])) (filter part rest) ≡ filter (λ (b : Beside S A). part b.source) later
          → trail_from (own f) (filter part before) (cond b (x ∷ filter part rest) (filter part rest)) ≡ filter (λ (b : Beside S A). part b.source) (trail_from (own f) before (x ∷ rest))
      by_part true is same =
          ap (λ (front : List S). own f (filter part before) x ++ trail_from (own f) front (filter part rest)) (sym (filter-kept part before x [] is))
          ∙ ap (λ (back : List (Beside S A)). own f (filter part before) x ++ back) same
          ∙ ap (λ (answers : List A). map (beside x) answers ++ filter (λ (b : Beside S A). part b.source) later) (local before x rest are is)
          ∙ sym (split ∙ ap (λ (c : Bool). cond c (own f before x) [] ++ filter (λ (b : Beside S A). part b.source) later) is)
      by_part false isnt same =
          ap (λ (front : List S). trail_from (own f) front (filter part rest)) (sym (filter-left part before x isnt))
          ∙ same
          ∙ sym (split ∙ ap (λ (c : Bool). cond c (own f before x) [] ++ filter (λ (b : Beside S A). part b.source) later) isnt)

-- ---- the law

in-map : {X Y : Type 0} (f : X → Y) (xs : List X) (x : X) → Contains xs x → Contains (map f xs) (f x)
in-map f [] x (k, below, is) = absurd (omega (arith, below))
in-map f (y ∷ xs) x (zero, below, is) = (zero, omega arith, ap f is)
in-map f (y ∷ xs) x (suc k, below, is) =
    let rest = in-map f xs x (k, omega (arith, below), is) in
    Contains-append_right (f y ∷ []) (map f xs) (f x) rest

-- the events of an item are the part's own, where no key counts items of the part and others
module _ {S : Type 0} (part : S → Bool) (all : List (Beside S Hits)) where
  -- an item of this source has this head
  abbrev pub Has : S → ItemHead → Type 0
  Has s head = (hits : Hits) × Contains all (beside s hits) × (hits.head ≡ head)

  apart-heads : (key_of : Counted → Option CountKey) → IsCountedApart part all key_of → Apart part Has key_of
  apart-heads key_of apart s t one other key more (hits, among, is) (hits_too, among_too, is_too) of isnt here there =
      apart (beside s hits) (beside t hits_too) one.rule other.rule key more among among_too of isnt
      (subst (λ (head : ItemHead). key_of (event_of head one.rule) ≡ Some key) (sym is) here)
      (subst (λ (head : ItemHead). key_of (event_of head other.rule) ≡ Some more) (sym is_too) there)

  pub item-events-own : (plan : Plan) → AreCountedApart plan part all → IsOwn part (OfHits part Has) (item_events plan.config plan.rules)
  item-events-own plan apart =
      events-own part Has plan.rules plan.config (apart-heads (match_key plan.rules) apart.matches)
      (apart-heads (event_key (own_place plan.config.filters) plan.config.filters plan.rules) apart.own)
      (apart-heads (event_key (global_place plan.config.filters) plan.config.filters plan.rules) apart.global)

module _ (plan : Plan) (part : Part) (records : List LinkedRecord) (shown : IsShownApart plan part records) where
  abbrev items : List LinkedRecord → LinkedRecord → List Hits
  items = record_items (detection_of plan) (jobs_way plan)

  -- an item of a record has this head
  abbrev OfRecord : LinkedRecord → Hits → Type 0
  OfRecord = OfHits part (Has part (items_beside plan records))

  module _ (before : List LinkedRecord) (r : LinkedRecord) (rest : List LinkedRecord) (are : before ++ r ∷ rest ≡ records) (of : part r ≡ true) where
    whole : items_beside plan records ≡ trail (own items) before ++ (own items before r ++ trail_from (own items) (before ++ r ∷ []) rest)
    whole = ap (items_beside plan) (sym are) ∙ trail-append (own items) before (r ∷ rest)

    each : Each part OfRecord (trail (own items) before)
    each b among = (
      b.what,
      subst (λ (all : List (Beside LinkedRecord Hits)). Contains all b) (sym whole)
          (Contains-append_left (trail (own items) before) (own items before r ++ trail_from (own items) (before ++ r ∷ []) rest) b among),
      refl,
    )

    holds : (hits : Hits) → Contains (items before r) hits → OfRecord r hits
    holds hits among = (
      hits,
      subst (λ (all : List (Beside LinkedRecord Hits)). Contains all (beside r hits)) (sym whole)
          (Contains-append_right (trail (own items) before) (own items before r ++ trail_from (own items) (before ++ r ∷ []) rest) (beside r hits)
          (Contains-append_left (own items before r) (trail_from (own items) (before ++ r ∷ []) rest) (beside r hits) (in-map (beside r) (items before r) hits among))),
      refl,
    )

    -- the part's earlier items
    own-earlier : whats (mine part (trail (own items) before)) ≡ trail items (filter part before)
    own-earlier =
        ap whats (sym (told-part items part before local [] before refl)) ∙ whats-own items [] (filter part before)
      where
        local : (b : List LinkedRecord) (s : LinkedRecord) (more : List LinkedRecord) → b ++ s ∷ more ≡ before → part s ≡ true → items (filter part b) s ≡ items b s
        local b s more here of_too =
            same-items (jobs_way plan) part records shown.split (detection_of plan) b s (more ++ r ∷ rest)
            (sym (append_assoc b (s ∷ more) (r ∷ rest)) ∙ ap (λ (front : List LinkedRecord). front ++ r ∷ rest) here ∙ are) of_too

    same-events : record_events plan (filter part before) r ≡ record_events plan before r
    unfolding record_events job_items
    same-events =
        let events : List Hits → List Hits → List Event = trail_from (item_events plan.config plan.rules) in
        ap (events (trail items (filter part before))) (same-items (jobs_way plan) part records shown.split (detection_of plan) before r rest are of)
        ∙ ap (λ (xs : List Hits). events xs (items before r)) (sym own-earlier)
        ∙ list-own part OfRecord (item_events plan.config plan.rules) (item-events-own part (items_beside plan records) plan shown.apart)
        (trail (own items) before) r (items before r) each of holds
        ∙ ap (λ (xs : List Hits). events xs (items before r)) (whats-own items [] before)

  pub part-shows : trace plan [] (of_part part records) Open ≡ alerts_of part (trace plan [] records Open)
  unfolding trace
  part-shows = told-part (record_events plan) part records same-events [] records refl
