-- Runs over the events of an item, one event after another.
use Rattle.std.proofs.Common.{◌≡◌, ℕ, ◌<◌, Bool, true, false, not, cond, List, [], ◌∷◌, ◌++◌, map, refl, sym, ap, subst, ◌∙◌, append_assoc, Some, None}
use Rattle.std.specs.Prelude.{Option}
use Rattle.std.specs.List.{filter}
use Rattle.std.proofs.lemmas.List.{append-nil, map-append}
use Rattle.std.proofs.lemmas.List.Elements.{filter-append}
use Rattle.edge_io.specs.Along.{trail, trail_from}
use Rattle.edge_io.proofs.Along.{trail_from-append, trail-more}
use Rattle.packet_decode.specs.declared.item.ItemHead.{ItemHead}
use Rattle.rule_types.specs.declared.rule.Rule.{Rule}
use Rattle.event_filters.specs.declared.counting.Count.{Count}
use Rattle.event_filters.specs.declared.counting.CountKey.{CountKey}
use Rattle.event_filters.specs.declared.counting.Window.{Window}
use Rattle.event_filters.specs.Counting.{Event, counted}
use Rattle.event_filters.specs.Counts.{match_count, event_count}
use Rattle.event_filters.specs.Events.{event_of, events_of, places_of, match_key, match_line, match_stays, own_place}
use Rattle.event_filters.specs.Events.{global_place, event_key, event_line, own_kept, global_kept, filtered, is_suppressed}
use Rattle.event_filters.specs.Runs.{AreSome, Matched, Stays, Lines, AreTables, Filtered, unsuppressed, AreBothOf, Keeps}
use Rattle.event_filters.specs.Windows.{window_at, windows_after, answer_of, AreAfter}
use Rattle.event_filters.proofs.Stages.{counted-answer, hold-more, AreAfter-same}
use Rattle.event_filters.proofs.Tallies.{IsCountOf-match, IsCountOf-event}

-- what was written by two runs, one after the other
written-more : (f : List Event → Event → List Event) (earlier front back : List Event) (old mid new : List ℕ)
    → mid ≡ old ++ places_of (trail_from f earlier front) → new ≡ mid ++ places_of (trail_from f (earlier ++ front) back) → new ≡ old ++ places_of (trail_from f earlier (front ++ back))
written-more f earlier front back old mid new first second =
    second ∙ ap (λ l. l ++ places_of (trail_from f (earlier ++ front) back)) first
    ∙ append_assoc old (places_of (trail_from f earlier front)) (places_of (trail_from f (earlier ++ front) back))
    ∙ ap (λ l. old ++ l) (sym (map-append (λ (event : Event). event.rule) (trail_from f earlier front) (trail_from f (earlier ++ front) back)))
    ∙ ap (λ events. old ++ places_of events) (sym (trail_from-append f earlier front back))

-- ---- detection filters

abbrev matched : List (CountKey × Window) → List ℕ → Matched
matched matches written = record { matches = matches; written = written }

one_place : (head : ItemHead) (place : ℕ) (b : Bool) → cond b (place ∷ []) [] ≡ places_of (cond b (event_of head place ∷ []) [] ++ [])
one_place head place true = refl
one_place head place false = refl

pub Stays-one : (rules : List Rule) (head : ItemHead) (place : ℕ) (old new : List (CountKey × Window)) (before after : List ℕ) (answer : Bool)
    → answer ≡ answer_of (window_at old) (match_count rules head place) head.moment.nanos
    → ((key : CountKey) → window_at new key ≡ windows_after (window_at old) (match_count rules head place) head.moment.nanos key)
    → after ≡ before ++ cond answer (place ∷ []) []
    → Stays rules head (matched old before) (place ∷ []) (matched new after)
unfolding Stays
Stays-one rules head place old new before after answer is windows written = λ some earlier hold.
    let event = event_of head place in
    let count = match_count rules head place in
    let tells = IsCountOf-match rules head place in
    let kept = counted-answer (match_key rules) (match_line rules) some earlier event (window_at old) count tells hold in (
      hold-more (match_key rules) (match_line rules) some earlier event (window_at old) (window_at new) count tells hold windows,
      written ∙ ap (λ l. before ++ l) (one_place head place answer
          ∙ ap (λ b. places_of (cond b (event ∷ []) [] ++ [])) is ∙ ap (λ l. places_of (l ++ [])) (sym kept)),
    )

pub Stays-none : (rules : List Rule) (head : ItemHead) (state : Matched) → Stays rules head state [] state
unfolding Stays
Stays-none rules head state = λ some earlier hold. (
  subst (λ (events : List Event). AreAfter (match_key rules) (match_line rules) events (window_at state.matches)) (sym (append-nil earlier)) hold,
  sym (append-nil state.written),
)

pub Stays-more : (rules : List Rule) (head : ItemHead) (old mid new : Matched) (places : List ℕ) (place : ℕ)
    → Stays rules head old places mid
    → Stays rules head mid (place ∷ []) new
    → Stays rules head old (places ++ place ∷ []) new
unfolding Stays
Stays-more rules head old mid new places place first second = λ some earlier hold.
    let a = first some earlier hold in
    let b = second some (earlier ++ events_of head places) a.0 in
    let events = map-append (event_of head) places (place ∷ []) in
    let all : (earlier ++ events_of head places) ++ events_of head (place ∷ []) ≡ earlier ++ events_of head (places ++ place ∷ []) =
    append_assoc earlier (events_of head places) (events_of head (place ∷ [])) ∙ ap (λ l. earlier ++ l) (sym events) in (
      subst (λ (l : List Event). AreAfter (match_key rules) (match_line rules) l (window_at new.matches)) all b.0,
      written-more (match_stays rules) earlier (events_of head places) (events_of head (place ∷ [])) old.written mid.written new.written a.1 b.1
          ∙ ap (λ l. old.written ++ places_of (trail_from (match_stays rules) earlier l)) (sym events),
    )

-- ---- event filters

abbrev pub state_of : List (CountKey × Window) → List (CountKey × Window) → List ℕ → Filtered
state_of own global written = record { own = own; global = global; written = written }

-- the events at these places were counted, and those that are kept were appended
abbrev KeepsThese : Lines → ItemHead → Filtered → List ℕ → Filtered → Type 0
KeepsThese lines head old places new =
    AreTables lines → AreSome (event_line lines.filters) → (earlier : List Event) → AreBothOf lines earlier old
    → AreBothOf lines (earlier ++ events_of head places) new
    × (new.written ≡ old.written ++ places_of (trail_from (filtered lines.filters lines.rules) earlier (events_of head places)))

these : (lines : Lines) (head : ItemHead) (old new : Filtered) (places shown : List ℕ) → unsuppressed lines head places ≡ shown → KeepsThese lines head old shown new → Keeps lines head old places new
unfolding Keeps
these lines head old new places shown is keeps = subst (λ (l : List ℕ). KeepsThese lines head old l new) (sym is) keeps

nothing : (lines : Lines) (head : ItemHead) (state : Filtered) → KeepsThese lines head state [] state
nothing lines head state = λ tables some earlier holds. (
  subst (λ (events : List Event). AreBothOf lines events state) (sym (append-nil earlier)) holds,
  sym (append-nil state.written),
)

pub Keeps-none : (lines : Lines) (head : ItemHead) (state : Filtered) → Keeps lines head state [] state
Keeps-none lines head state = these lines head state state [] [] refl (nothing lines head state)

-- an event that a suppress line drops
pub Keeps-suppressed : (lines : Lines) (head : ItemHead) (state : Filtered) (event : ℕ) → is_suppressed lines.suppress lines.rules head event ≡ true → Keeps lines head state (event ∷ []) state
Keeps-suppressed lines head state event is =
    these lines head state state (event ∷ []) [] (ap (λ b. cond (not b) (event ∷ []) []) is) (nothing lines head state)

pub Keeps-more : (lines : Lines) (head : ItemHead) (old mid new : Filtered) (places : List ℕ) (place : ℕ)
    → Keeps lines head old places mid
    → Keeps lines head mid (place ∷ []) new
    → Keeps lines head old (places ++ place ∷ []) new
unfolding Keeps
Keeps-more lines head old mid new places place first second = λ tables some earlier holds.
    let f = filtered lines.filters lines.rules in
    let front = events_of head (unsuppressed lines head places) in
    let back = events_of head (unsuppressed lines head (place ∷ [])) in
    let a = first tables some earlier holds in
    let b = second tables some (earlier ++ front) a.0 in
    let events : events_of head (unsuppressed lines head (places ++ place ∷ [])) ≡ front ++ back =
    ap (events_of head) (filter-append (λ p. not (is_suppressed lines.suppress lines.rules head p)) places (place ∷ []))
    ∙ map-append (event_of head) (unsuppressed lines head places) (unsuppressed lines head (place ∷ [])) in (
      subst (λ (l : List Event). AreBothOf lines l new) (append_assoc earlier front back ∙ ap (λ l. earlier ++ l) (sym events)) b.0,
      written-more f earlier front back old.written mid.written new.written a.1 b.1 ∙ ap (λ l. old.written ++ places_of (trail_from f earlier l)) (sym events),
    )

module _ (lines : Lines) (head : ItemHead) (event : ℕ) (shown : is_suppressed lines.suppress lines.rules head event ≡ false) where
  abbrev own_key : Event → Option CountKey
  own_key = event_key (own_place lines.filters) lines.filters lines.rules

  abbrev global_key : Event → Option CountKey
  global_key = event_key (global_place lines.filters) lines.filters lines.rules

  abbrev own_count : Option Count
  own_count = event_count lines.filters lines.own_places lines.rules head event

  abbrev global_count : Option Count
  global_count = event_count lines.filters lines.global_places lines.rules head event

  alone : unsuppressed lines head (event ∷ []) ≡ event ∷ []
  alone = ap (λ b. cond (not b) (event ∷ []) []) shown

  -- what the event's own filter lets through
  own_is : (tables : AreTables lines) (some : AreSome (event_line lines.filters)) (earlier : List Event) (own_old : List (CountKey × Window)) (a : Bool)
      → AreAfter own_key (event_line lines.filters) earlier (window_at own_old) → a ≡ answer_of (window_at own_old) own_count head.moment.nanos
      → own_kept lines.filters lines.rules earlier (event_of head event) ≡ cond a (event_of head event ∷ []) []
  own_is tables some earlier own_old a hold is =
      counted-answer own_key (event_line lines.filters) some earlier (event_of head event) (window_at own_old) own_count
      (IsCountOf-event lines.filters (own_place lines.filters) lines.rules lines.own_places head event tables.own) hold
      ∙ ap (λ b. cond b (event_of head event ∷ []) []) (sym is)

  -- the event's own filter drops the event
  pub Keeps-dropped : (own_old own_new global : List (CountKey × Window)) (written : List ℕ)
      → false ≡ answer_of (window_at own_old) own_count head.moment.nanos
      → ((key : CountKey) → window_at own_new key ≡ windows_after (window_at own_old) own_count head.moment.nanos key)
      → Keeps lines head (state_of own_old global written) (event ∷ []) (state_of own_new global written)
  unfolding filtered
  Keeps-dropped own_old own_new global written is windows =
      these lines head (state_of own_old global written) (state_of own_new global written) (event ∷ []) (event ∷ []) alone
      (λ tables some earlier holds.
      let e = event_of head event in
      let kept = own_kept lines.filters lines.rules in
      let dropped : kept earlier e ≡ [] = own_is tables some earlier own_old false holds.own is in
      let came : trail kept (earlier ++ e ∷ []) ≡ trail kept earlier =
      sym (trail-more kept earlier e) ∙ ap (λ l. trail kept earlier ++ l) dropped ∙ append-nil (trail kept earlier) in
      let nothing_kept : filtered lines.filters lines.rules earlier e ≡ [] = ap (trail_from (global_kept lines.filters lines.rules) (trail kept earlier)) dropped in (
        record {
          own = hold-more own_key (event_line lines.filters) some earlier e (window_at own_old) (window_at own_new) own_count
              (IsCountOf-event lines.filters (own_place lines.filters) lines.rules lines.own_places head event tables.own) holds.own windows;
          global = subst (λ (l : List Event). AreAfter global_key (event_line lines.filters) l (window_at global)) (sym came) holds.global;
        },
        sym (append-nil written) ∙ ap (λ l. written ++ places_of (l ++ [])) (sym nothing_kept),
      ))

  twice_one_place : (b : Bool) → cond b (event ∷ []) [] ≡ places_of ((cond b (event_of head event ∷ []) [] ++ []) ++ [])
  twice_one_place true = refl
  twice_one_place false = refl

  -- the event's own filter lets it through, and the global one decides
  pub Keeps-passed : (own_old own_new global_old global_new : List (CountKey × Window)) (before after : List ℕ) (b : Bool)
      → true ≡ answer_of (window_at own_old) own_count head.moment.nanos
      → ((key : CountKey) → window_at own_new key ≡ windows_after (window_at own_old) own_count head.moment.nanos key)
      → b ≡ answer_of (window_at global_old) global_count head.moment.nanos
      → ((key : CountKey) → window_at global_new key ≡ windows_after (window_at global_old) global_count head.moment.nanos key)
      → after ≡ before ++ cond b (event ∷ []) []
      → Keeps lines head (state_of own_old global_old before) (event ∷ []) (state_of own_new global_new after)
  unfolding filtered
  Keeps-passed own_old own_new global_old global_new before after b own_answer own_windows global_answer global_windows written =
      these lines head (state_of own_old global_old before) (state_of own_new global_new after) (event ∷ []) (event ∷ []) alone
      (λ tables some earlier holds.
      let e = event_of head event in
      let kept = own_kept lines.filters lines.rules in
      let last = global_kept lines.filters lines.rules in
      let passed : kept earlier e ≡ e ∷ [] = own_is tables some earlier own_old true holds.own own_answer in
      let came : trail kept (earlier ++ e ∷ []) ≡ trail kept earlier ++ e ∷ [] =
      sym (trail-more kept earlier e) ∙ ap (λ l. trail kept earlier ++ l) passed in
      let tells = IsCountOf-event lines.filters (global_place lines.filters) lines.rules lines.global_places head event tables.global in
      let decided : last (trail kept earlier) e ≡ cond b (e ∷ []) [] =
      counted-answer global_key (event_line lines.filters) some (trail kept earlier) e (window_at global_old) global_count tells holds.global ∙ ap (λ t. cond t (e ∷ []) []) (sym global_answer) in
      let all_kept : filtered lines.filters lines.rules earlier e ≡ cond b (e ∷ []) [] ++ [] =
      ap (trail_from last (trail kept earlier)) passed ∙ ap (λ l. l ++ []) decided in (
        record {
          own = hold-more own_key (event_line lines.filters) some earlier e (window_at own_old) (window_at own_new) own_count
              (IsCountOf-event lines.filters (own_place lines.filters) lines.rules lines.own_places head event tables.own) holds.own own_windows;
          global = subst (λ (l : List Event). AreAfter global_key (event_line lines.filters) l (window_at global_new)) (sym came)
              (hold-more global_key (event_line lines.filters) some (trail kept earlier) e (window_at global_old) (window_at global_new) global_count tells holds.global global_windows);
        },
        written ∙ ap (λ l. before ++ l) (twice_one_place b ∙ ap (λ l. places_of (l ++ [])) (sym all_kept)),
      ))
