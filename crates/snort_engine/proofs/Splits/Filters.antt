-- Answers that look at what is of a part alone, and that events are such answers where no key counts those of two parts.
--
-- Inputs are beside their sources, of which some are of the part. An answer is the part's own where it is the same
-- after the part's earlier inputs as after all of them.
use Rattle.std.proofs.Common.{◌≡◌, ℕ, zero, suc, Bool, true, false, cond, not, List, [], ◌∷◌, ◌++◌, Option, Some, None, map}
use Rattle.std.proofs.Common.{refl, sym, ap, subst, ◌∙◌, ◌⊎◌, inl, inr, append-nil, arith}
use Rattle.std.specs.Prelude.{Contains}
use Rattle.std.specs.List.{filter, flat_map}
use Rattle.std.specs.Option.{option_map, option_map_or}
use Rattle.std.proofs.lemmas.List.Elements.{Contains-append_cases, Contains-append_left, Contains-append_right, filter-append}
use Rattle.edge_io.specs.Along.{chained, trail, trail_from}
use Rattle.packet_decode.specs.declared.item.ItemHead.{ItemHead}
use Rattle.conf_types.specs.declared.config.Config.{Config}
use Rattle.rule_types.specs.declared.rule.Rule.{Rule}
use Rattle.event_filters.specs.declared.counting.CountKey.{CountKey}
use Rattle.event_filters.specs.Keys.{same_key}
use Rattle.event_filters.specs.Counting.{Event, counted, has_key, lets, moment_of, passes, windowed}
use Rattle.event_filters.specs.Events.{Item, arising, event_key, event_line, event_of, events_of, filtered, global_kept}
use Rattle.event_filters.specs.Events.{global_place, is_suppressed, kept, match_key, match_line, match_stays, matches, own_kept}
use Rattle.event_filters.specs.Events.{own_place, places_of, staying}
use Rattle.event_filters.specs.Queue.{queued}
use Rattle.flow_lanes.specs.declared.answer.Hits.{Hits}
use Rattle.alert_lines.specs.Beside.{Beside, beside, carried, whats}
use Rattle.alert_lines.specs.Events.{event_at, filtered_item, item_events}
use Rattle.alert_lines.proofs.Beside.{whats-append, whats-carried}

-- ---- elements

pub none-in : {X : Type 0} (x : X) → Contains [] x → ⊥
none-in x (k, below, is) = omega (arith, below)

-- an element of a list of one
one-in : {X : Type 0} (x y : X) → Contains (x ∷ []) y → y ≡ x
one-in x y (zero, below, is) = sym is
one-in x y (suc k, below, is) = absurd (omega (arith, below))

first-in : {X : Type 0} (x : X) (xs : List X) → Contains (x ∷ xs) x
first-in x xs = (zero, omega arith, refl)

-- an element of what a function makes of each
mapped-in : {X Y : Type 0} (f : X → Y) (xs : List X) (y : Y) → Contains (map f xs) y → (x : X) × Contains xs x × (y ≡ f x)
mapped-in f [] y has = absurd (none-in y has)
mapped-in f (x ∷ xs) y has = elim (Contains-append_cases (f x ∷ []) (map f xs) y has) [
  | inl first ↦ (x, first-in x xs, one-in (f x) y first)
  | inr later ↦ let more = mapped-in f xs y later in (more.0, Contains-append_right (x ∷ []) xs more.0 more.1, more.2)
]

-- of a list of answers, what holds of each answer to an input
trailed-in : {X A : Type 0} (P : A → Type 0) (f : List X → X → List A) (before xs : List X)
    → ((earlier : List X) (x : X) (a : A) → Contains xs x → Contains (f earlier x) a → P a) → (a : A) → Contains (trail_from f before xs) a → P a
trailed-in P f before [] each a has = absurd (none-in a has)
trailed-in P f before (x ∷ xs) each a has = elim (Contains-append_cases (f before x) (trail_from f (before ++ x ∷ []) xs) a has) [
  | inl first ↦ each before x a (first-in x xs) first
  | inr later ↦ trailed-in P f (before ++ x ∷ []) xs (λ earlier y b in_xs in_f. each earlier y b (Contains-append_right (x ∷ []) xs y in_xs) in_f) a later
]

module _ {S : Type 0} (part : S → Bool) where
  -- the part's own of these
  abbrev pub mine : {A : Type 0} → List (Beside S A) → List (Beside S A)
  mine {A} all = filter (λ (b : Beside S A). part b.source) all

  -- something holds of each with its source
  abbrev pub Each : {A : Type 0} → (S → A → Type 0) → List (Beside S A) → Type 0
  Each {A} Q all = (b : Beside S A) → Contains all b → Q b.source b.what

  -- an answer is the part's own
  abbrev pub IsOwn : {A B : Type 0} → (S → A → Type 0) → (List A → A → List B) → Type 0
  IsOwn {A} Q f = (all : List (Beside S A)) (s : S) (x : A) → Each Q all → part s ≡ true → Q s x → f (whats (mine all)) x ≡ f (whats all) x

  -- what holds of an input makes this hold of each answer
  abbrev pub Keeps : {A B : Type 0} → (S → A → Type 0) → (S → B → Type 0) → (List A → A → List B) → Type 0
  Keeps {A} {B} Q R f = (s : S) (before : List A) (x : A) (y : B) → Q s x → Contains (f before x) y → R s y

  pub mine-beside : {A : Type 0} (s : S) (xs : List A) → mine (map (beside s) xs) ≡ cond (part s) (map (beside s) xs) []
  mine-beside {A} s xs = by_part (part s) refl
    where
      all : part s ≡ true → (xs : List A) → mine (map (beside s) xs) ≡ map (beside s) xs
      all is [] = refl
      all is (x ∷ xs) =
          ap (λ (b : Bool). cond b (beside s x ∷ mine (map (beside s) xs)) (mine (map (beside s) xs))) is ∙ ap (λ (rest : List (Beside S A)). beside s x ∷ rest) (all is xs)

      none : part s ≡ false → (xs : List A) → mine (map (beside s) xs) ≡ []
      none isnt [] = refl
      none isnt (x ∷ xs) = ap (λ (b : Bool). cond b (beside s x ∷ mine (map (beside s) xs)) (mine (map (beside s) xs))) isnt ∙ none isnt xs

      by_part : (b : Bool) → part s ≡ b → mine (map (beside s) xs) ≡ cond b (map (beside s) xs) []
      by_part true is = all is xs
      by_part false isnt = none isnt xs

  -- the part's own inputs, with one input more
  mine-more : {A : Type 0} (before : List (Beside S A)) (b : Beside S A) (c : Bool) → part b.source ≡ c → mine (before ++ b ∷ []) ≡ mine before ++ cond c (b ∷ []) []
  mine-more {A} before b c is = filter-append (λ (b : Beside S A). part b.source) before (b ∷ []) ∙ ap (λ (d : Bool). mine before ++ cond d (b ∷ []) []) is

  each-front : {A : Type 0} (Q : S → A → Type 0) (front back : List (Beside S A)) → Each Q (front ++ back) → Each Q front
  each-front Q front back each b has = each b (Contains-append_left front back b has)

  each-back : {A : Type 0} (Q : S → A → Type 0) (front back : List (Beside S A)) → Each Q (front ++ back) → Each Q back
  each-back Q front back each b has = each b (Contains-append_right front back b has)

  each-both : {A : Type 0} (Q : S → A → Type 0) (front back : List (Beside S A)) → Each Q front → Each Q back → Each Q (front ++ back)
  each-both Q front back each later b has = elim (Contains-append_cases front back b has) [ inl first ↦ each b first | inr second ↦ later b second ]

  each-one : {A : Type 0} (Q : S → A → Type 0) (s : S) (x : A) → Q s x → Each Q (beside s x ∷ [])
  each-one {A} Q s x q b has = subst (λ (c : Beside S A). Q c.source c.what) (sym (one-in (beside s x) b has)) q

  -- the part's answers are those to the part
  pub mine-carried : {A B : Type 0} (Q : S → A → Type 0) (f : List A → A → List B) → IsOwn Q f → (before all : List (Beside S A)) → Each Q before → Each Q all
      → mine (carried f (whats before) all) ≡ carried f (whats (mine before)) (mine all)
  mine-carried Q f own before [] each_before each = refl
  mine-carried {A} {B} Q f own before (b ∷ later) each_before each =
      let front = map (beside b.source) (f (whats before) b.what) in
      let after = whats-append before (b ∷ []) in
      let rest = mine-carried Q f own (before ++ b ∷ []) later (each-both Q before (b ∷ []) each_before (each-front Q (b ∷ []) later each)) (each-back Q (b ∷ []) later each) in
      filter-append (λ (c : Beside S B). part c.source) front (carried f (whats before ++ b.what ∷ []) later)
      ∙ ap (λ (xs : List (Beside S B)). xs ++ mine (carried f (whats before ++ b.what ∷ []) later)) (mine-beside b.source (f (whats before) b.what))
      ∙ ap (λ (xs : List A). cond (part b.source) front [] ++ mine (carried f xs later)) (sym after)
      ∙ ap (λ (xs : List (Beside S B)). cond (part b.source) front [] ++ xs) rest
      ∙ by_part (part b.source) refl
    where
      by_part : (c : Bool) → part b.source ≡ c
          → cond c (map (beside b.source) (f (whats before) b.what)) [] ++ carried f (whats (mine (before ++ b ∷ []))) (mine later)
          ≡ carried f (whats (mine before)) (cond c (b ∷ mine later) (mine later))
      by_part true is =
          ap (λ (xs : List B). map (beside b.source) xs ++ carried f (whats (mine (before ++ b ∷ []))) (mine later)) (sym (own before b.source b.what each_before is (each b (first-in b later))))
          ∙ ap (λ (xs : List A). map (beside b.source) (f (whats (mine before)) b.what) ++ carried f xs (mine later)) (ap whats (mine-more before b true is) ∙ whats-append (mine before) (b ∷ []))
      by_part false isnt = ap (λ (xs : List (Beside S A)). carried f (whats xs) (mine later)) (mine-more before b false isnt ∙ append-nil (mine before))

  pub carried-each : {A B : Type 0} (Q : S → A → Type 0) (R : S → B → Type 0) (f : List A → A → List B)
      → Keeps Q R f
      → (before : List A) (all : List (Beside S A))
      → Each Q all
      → Each R (carried f before all)
  carried-each Q R f keeps before [] each c has = absurd (none-in c has)
  carried-each {A} {B} Q R f keeps before (b ∷ later) each c has = elim (Contains-append_cases (map (beside b.source) (f before b.what)) (carried f (before ++ b.what ∷ []) later) c has) [
    | inl first ↦
        let one = mapped-in (beside b.source) (f before b.what) c first in
        subst (λ (d : Beside S B). R d.source d.what) (sym one.2) (keeps b.source before b.what one.0 (each b (first-in b later)) one.1)
    | inr second ↦ carried-each Q R f keeps (before ++ b.what ∷ []) later (each-back Q (b ∷ []) later each) c second
  ]

  -- the answers to several inputs of one source
  pub list-own : {A B : Type 0} (Q : S → A → Type 0) (f : List A → A → List B)
      → IsOwn Q f
      → (all : List (Beside S A)) (s : S) (xs : List A)
      → Each Q all
      → part s ≡ true
      → ((x : A) → Contains xs x → Q s x)
      → trail_from f (whats (mine all)) xs ≡ trail_from f (whats all) xs
  list-own Q f own all s [] each of holds = refl
  list-own {A} {B} Q f own all s (x ∷ xs) each of holds =
      let more = all ++ beside s x ∷ [] in
      let q = holds x (first-in x xs) in
      let here = own all s x each of q in
      let rest = list-own Q f own more s xs (each-both Q all (beside s x ∷ []) each (each-one Q s x q)) of (λ y has. holds y (Contains-append_right (x ∷ []) xs y has)) in
      ap (λ (front : List B). front ++ trail_from f (whats (mine all) ++ x ∷ []) xs) here
      ∙ ap (λ (before : List A). f (whats all) x ++ trail_from f before xs) (sym (ap whats (mine-more all (beside s x) true of) ∙ whats-append (mine all) (beside s x ∷ [])))
      ∙ ap (λ (back : List B). f (whats all) x ++ back) rest
      ∙ ap (λ (before : List A). f (whats all) x ++ trail_from f before xs) (whats-append all (beside s x ∷ []))

  -- two stages, one after the other
  pub chained-own : {A B C : Type 0} (Q : S → A → Type 0) (R : S → B → Type 0) (f : List A → A → List B) (g : List B → B → List C) → IsOwn Q f → Keeps Q R f → IsOwn R g → IsOwn Q (chained g f)
  chained-own {A} {B} {C} Q R f g own keeps own_too all s x each of q =
      let given = carried f [] all in
      let whole : whats given ≡ trail f (whats all) = whats-carried f [] all in
      let own_given : mine given ≡ carried f [] (mine all) = mine-carried Q f own [] all (λ b has. absurd (none-in b has)) each in
      let part_whole : whats (mine given) ≡ trail f (whats (mine all)) = ap whats own_given ∙ whats-carried f [] (mine all) in
      ap (λ (xs : List B). trail_from g (trail f (whats (mine all))) xs) (own all s x each of q)
      ∙ ap (λ (before : List B). trail_from g before (f (whats all) x)) (sym part_whole)
      ∙ list-own R g own_too given s (f (whats all) x) (carried-each Q R f keeps [] all each) of (λ y has. keeps s (whats all) x y q has)
      ∙ ap (λ (before : List B). trail_from g before (f (whats all) x)) whole

  pub chained-keeps : {A B C : Type 0} (Q : S → A → Type 0) (R : S → B → Type 0) (T : S → C → Type 0) (f : List A → A → List B)
      (g : List B → B → List C)
      → Keeps Q R f
      → Keeps R T g
      → Keeps Q T (chained g f)
  chained-keeps Q R T f g keeps keeps_too s before x z q has =
      trailed-in (T s) g (trail f before) (f before x) (λ earlier y c in_f in_g. keeps_too s earlier y c (keeps s before x y q in_f) in_g) z has

-- ---- events
module _ {S : Type 0} (part : S → Bool) (Has : S → ItemHead → Type 0) where
  abbrev OfItem : S → Item → Type 0
  OfItem s item = Has s item.head

  abbrev OfEvent : S → Event → Type 0
  OfEvent s event = Has s event.head

  abbrev pub OfHits : S → Hits → Type 0
  OfHits s hits = Has s hits.head

  -- no event of the part has the key of one that isn't
  abbrev pub Apart : (Event → Option CountKey) → Type 0
  Apart key_of =
      (s t : S) (one other : Event) (key more : CountKey)
      → Has s one.head
      → Has t other.head
      → part s ≡ true
      → part t ≡ false
      → key_of one ≡ Some key
      → key_of other ≡ Some more
      → same_key key more ≡ false

  own-counted : (key_of : Event → Option CountKey)
      → Apart key_of
      → (all : List (Beside S Event)) (s : S) (event : Event) (key : CountKey)
      → Each part OfEvent all
      → part s ≡ true
      → Has s event.head
      → key_of event ≡ Some key
      → filter (has_key key_of key) (whats (mine part all)) ≡ filter (has_key key_of key) (whats all)
  own-counted key_of apart [] s event key each of has is = refl
  own-counted key_of apart (b ∷ later) s event key each of has is =
      by_part (part b.source) refl (own-counted key_of apart later s event key (each-back part OfEvent (b ∷ []) later each) of has is)
    where
      passed : part b.source ≡ false → has_key key_of key b.what ≡ false
      passed isnt = by_key (key_of b.what) refl
        where
          by_key : (o : Option CountKey) → key_of b.what ≡ o → option_map_or (same_key key) o false ≡ false
          by_key None there = refl
          by_key (Some more) there = apart s b.source event b.what key more has (each b (first-in b later)) of isnt is there

      by_part : (c : Bool) → part b.source ≡ c → filter (has_key key_of key) (whats (mine part later)) ≡ filter (has_key key_of key) (whats later)
          → filter (has_key key_of key) (whats (cond c (b ∷ mine part later) (mine part later))) ≡ filter (has_key key_of key) (b.what ∷ whats later)
      by_part true of_part rest = ap (λ (xs : List Event). cond (has_key key_of key b.what) (b.what ∷ xs) xs) rest
      by_part false isnt rest = rest ∙ sym (ap (λ (c : Bool). cond c (b.what ∷ filter (has_key key_of key) (whats later)) (filter (has_key key_of key) (whats later))) (passed isnt))

  counted-own : (key_of : Event → Option CountKey) (line_at : CountKey → _) → Apart key_of → IsOwn part OfEvent (counted key_of line_at)
  counted-own key_of line_at apart all s event each of has = by_key (key_of event) refl
    where
      by_key : (o : Option CountKey) → key_of event ≡ o
          → cond (passes key_of line_at (whats (mine part all)) event (key_of event)) (event ∷ []) [] ≡ cond (passes key_of line_at (whats all) event (key_of event)) (event ∷ []) []
      by_key None is =
          ap (λ (o : Option CountKey). cond (passes key_of line_at (whats (mine part all)) event o) (event ∷ []) []) is
          ∙ sym (ap (λ (o : Option CountKey). cond (passes key_of line_at (whats all) event o) (event ∷ []) []) is)
      by_key (Some key) is =
          ap (λ (o : Option CountKey). cond (passes key_of line_at (whats (mine part all)) event o) (event ∷ []) []) is
          ∙ ap (λ (xs : List Event). cond
          (lets (line_at key).kind (line_at key).count (windowed (map moment_of xs) (moment_of event) (line_at key).seconds))
          (event ∷ []) []) (own-counted key_of apart all s event key each of has is)
          ∙ sym (ap (λ (o : Option CountKey). cond (passes key_of line_at (whats all) event o) (event ∷ []) []) is)

  counted-keeps : (key_of : Event → Option CountKey) (line_at : CountKey → _) → Keeps part OfEvent OfEvent (counted key_of line_at)
  counted-keeps key_of line_at s before event other has among = by_test (passes key_of line_at before event (key_of event)) among
    where
      by_test : (b : Bool) → Contains (cond b (event ∷ []) []) other → Has s other.head
      by_test true among = subst (λ (e : Event). Has s e.head) (sym (one-in event other among)) has
      by_test false among = absurd (none-in other among)

  -- the events of one head
  heads-keep : (s : S) (head : ItemHead) (places : List ℕ) (event : Event) → Has s head → Contains (events_of head places) event → Has s event.head
  heads-keep s head places event has among =
      let one = mapped-in (event_of head) places event among in
      subst (λ (e : Event). Has s e.head) (sym one.2) has

  module _ (rules : List Rule) (config : Config) (apart_matches : Apart (match_key rules))
      (apart_own : Apart (event_key (own_place config.filters) config.filters rules)) (apart_global : Apart (event_key (global_place config.filters) config.filters rules)) where
    staying-own : IsOwn part OfItem (staying rules)
    staying-own =
        chained-own part OfItem OfEvent (λ _ item. matches item) (match_stays rules) (λ all s item each of has. refl)
        (λ s before item event has among. heads-keep s item.head item.hits event has among) (counted-own (match_key rules) (match_line rules) apart_matches)

    arising-own : IsOwn part OfItem (arising config rules)
    unfolding arising
    arising-own all s item each of has =
        ap (λ (events : List Event). events_of item.head (filter (λ place. not (is_suppressed config.suppress rules item.head place)) (queued config.queue rules (places_of events))))
        (staying-own all s item each of has)

    arising-keeps : Keeps part OfItem OfEvent (arising config rules)
    unfolding arising
    arising-keeps s before item event has among =
        heads-keep s item.head (filter (λ place. not (is_suppressed config.suppress rules item.head place)) (queued config.queue rules (places_of (staying rules before item)))) event has among

    filtered-own : IsOwn part OfEvent (filtered config.filters rules)
    unfolding filtered
    filtered-own =
        chained-own part OfEvent OfEvent (own_kept config.filters rules) (global_kept config.filters rules)
        (counted-own (event_key (own_place config.filters) config.filters rules) (event_line config.filters) apart_own)
        (counted-keeps (event_key (own_place config.filters) config.filters rules) (event_line config.filters))
        (counted-own (event_key (global_place config.filters) config.filters rules) (event_line config.filters) apart_global)

    kept-own : (all : List (Beside S Item)) (s : S) (item : Item)
        → Each part OfItem all
        → part s ≡ true
        → Has s item.head
        → kept config rules (whats (mine part all)) item ≡ kept config rules (whats all) item
    unfolding kept
    kept-own all s item each of has =
        ap places_of (chained-own part OfItem OfEvent (arising config rules) (filtered config.filters rules) arising-own arising-keeps filtered-own all s item each of has)

    -- the items as filters see them
    abbrev seen : List (Beside S Hits) → List (Beside S Item)
    seen all = map (λ (b : Beside S Hits). beside b.source (filtered_item b.what)) all

    whats-seen : (all : List (Beside S Hits)) → whats (seen all) ≡ map filtered_item (whats all)
    whats-seen [] = refl
    whats-seen (b ∷ later) = ap (λ (xs : List Item). filtered_item b.what ∷ xs) (whats-seen later)

    mine-seen : (all : List (Beside S Hits)) → mine part (seen all) ≡ seen (mine part all)
    mine-seen [] = refl
    mine-seen (b ∷ later) = by_part (part b.source) (mine-seen later)
      where
        by_part : (c : Bool) → mine part (seen later) ≡ seen (mine part later)
            → cond c (beside b.source (filtered_item b.what) ∷ mine part (seen later)) (mine part (seen later)) ≡ seen (cond c (b ∷ mine part later) (mine part later))
        by_part true rest = ap (λ (xs : List (Beside S Item)). beside b.source (filtered_item b.what) ∷ xs) rest
        by_part false rest = rest

    each-seen : (all : List (Beside S Hits)) → Each part OfHits all → Each part OfItem (seen all)
    each-seen all each b has =
        let one = mapped-in (λ (c : Beside S Hits). beside c.source (filtered_item c.what)) all b has in
        subst (λ (c : Beside S Item). Has c.source c.what.head) (sym one.2) (each one.0 one.1)

    -- an item's events are the part's own
    pub events-own : IsOwn part OfHits (item_events config rules)
    unfolding item_events
    events-own all s hits each of has =
        ap (flat_map (event_at rules hits.head))
        (ap (λ (xs : List Item). kept config rules xs (filtered_item hits)) (sym (ap whats (mine-seen all) ∙ whats-seen (mine part all)))
        ∙ kept-own (seen all) s (filtered_item hits) (each-seen all each) of has
        ∙ ap (λ (xs : List Item). kept config rules xs (filtered_item hits)) (whats-seen all))
