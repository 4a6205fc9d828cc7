-- One item more: what the filters stand for, and what is kept.
use Rattle.std.proofs.Common.{◌≡◌, ℕ, List, [], ◌∷◌, ◌++◌, map, refl, sym, ap, subst, ◌∙◌, None, Some, ◌<◌}
use Rattle.std.specs.Prelude.{Option, All, length}
use Rattle.edge_io.specs.Along.{trail, trail_from, chained}
use Rattle.edge_io.proofs.Along.{trail-more}
use Rattle.packet_decode.specs.declared.item.ItemHead.{ItemHead}
use Rattle.conf_types.specs.declared.config.Config.{Config}
use Rattle.conf_types.specs.Sound.{IsSound}
use Rattle.rule_types.specs.declared.rule.Rule.{Rule}
use Rattle.rule_types.specs.Sound.{IsTriable}
use Rattle.event_filters.specs.declared.counting.CountKey.{CountKey}
use Rattle.event_filters.specs.declared.counting.CountLine.{CountLine}
use Rattle.event_filters.specs.declared.counting.Window.{Window}
use Rattle.event_filters.specs.Counting.{Event}
use Rattle.event_filters.specs.Events.{Item, events_of, places_of, matches, match_key, match_line, own_place, global_place}
use Rattle.event_filters.specs.Events.{event_key, event_line, own_kept, filtered, staying, arising, kept, is_suppressed}
use Rattle.event_filters.specs.Queue.{longest_content, queued, queued_by}
use Rattle.event_filters.specs.Runs.{Matched, Stays, Lines, AreTables, Filtered, unsuppressed, AreBothOf, Keeps}
use Rattle.event_filters.specs.Filtering.{FiltersState, IsGiven, IsSame, Passes}
use Rattle.event_filters.specs.Windows.{Windows, window_at, AreAfter}
use Rattle.event_filters.proofs.Tallies.{AreSome-matches, AreSome-events}
use Rattle.event_filters.proofs.Stages.{AreAfter-same}

-- no window stands for no event
pub AreAfter-none : (key_of : Event → Option CountKey) (line_at : CountKey → CountLine) (entries : List (CountKey × Window)) → entries ≡ [] → AreAfter key_of line_at [] (window_at entries)
unfolding AreAfter
AreAfter-none key_of line_at entries empty = λ key. ap (λ es. window_at es key) empty

pub given-none : (config : Config) (rules : List Rule) (state : FiltersState) → IsSound config → All IsTriable rules
    → state.sizes ≡ map longest_content rules → state.own_places ≡ map (own_place config.filters) rules → state.global_places ≡ map (global_place config.filters) rules
    → state.matches ≡ [] → state.own ≡ [] → state.global ≡ [] → IsGiven config rules [] state
unfolding IsGiven
given-none config rules state config_sound rules_sound sizes own_places global_places no_match no_own no_global = record {
  config_sound = config_sound;
  rules_sound = rules_sound;
  sizes = sizes;
  own_places = own_places;
  global_places = global_places;
  matches = AreAfter-none (match_key rules) (match_line rules) state.matches no_match;
  own = AreAfter-none (event_key (own_place config.filters) config.filters rules) (event_line config.filters) state.own no_own;
  global = AreAfter-none (event_key (global_place config.filters) config.filters rules) (event_line config.filters) state.global no_global;
}

-- the lines of a configuration, with these tables
abbrev lines_with : Config → List Rule → FiltersState → Lines
lines_with config rules state = record {
  filters = config.filters;
  suppress = config.suppress;
  rules = rules;
  own_places = state.own_places;
  global_places = state.global_places;
}

pub passes-from : (config : Config) (rules : List Rule) (head : ItemHead) (hits staying_now queue out written : List ℕ)
    (old new : FiltersState)
    (matches_mid own_mid global_mid : List (CountKey × Window))
    → ((key : CountKey) → window_at matches_mid key ≡ window_at old.matches key)
    → ((key : CountKey) → window_at own_mid key ≡ window_at old.own key)
    → ((key : CountKey) → window_at global_mid key ≡ window_at old.global key)
    → new.sizes ≡ old.sizes
    → new.own_places ≡ old.own_places
    → new.global_places ≡ old.global_places
    → Stays rules head (record { matches = matches_mid; written = [] }) hits
    (record { matches = new.matches; written = staying_now })
    → queue ≡ queued_by config.queue rules old.sizes staying_now
    → Keeps (lines_with config rules old) head (record { own = own_mid; global = global_mid; written = out }) queue
    (record { own = new.own; global = new.global; written = written })
    → Passes config rules old out (record { head = head; hits = hits }) new written
unfolding IsGiven Stays Keeps arising kept queued
passes-from config rules head hits staying_now queue out written old new matches_mid own_mid global_mid same_matches same_own
    same_global sizes own_places global_places stays queue_is keeps = λ before given.
    let item : Item = record { head = head; hits = hits } in
    let matches_before = trail (λ (b : List Item) (i : Item). matches i) before in
    let arisen = trail (arising config rules) before in
    let a =
    stays (AreSome-matches rules given.rules_sound) matches_before
    (AreAfter-same (match_key rules) (match_line rules) (AreSome-matches rules given.rules_sound) matches_before
    (window_at old.matches) (window_at matches_mid) same_matches given.matches) in
    let some = AreSome-events config.filters given.config_sound.filters in
    let tables : AreTables (lines_with config rules old) = record { own = given.own_places; global = given.global_places } in
    let own_key = event_key (own_place config.filters) config.filters rules in
    let global_key = event_key (global_place config.filters) config.filters rules in
    let holds : AreBothOf (lines_with config rules old) arisen (record { own = own_mid; global = global_mid; written = out }) =
    record {
      own =
          AreAfter-same own_key (event_line config.filters) some arisen (window_at old.own) (window_at own_mid) same_own
          given.own;
      global =
          AreAfter-same global_key (event_line config.filters) some (trail (own_kept config.filters rules) arisen)
          (window_at old.global) (window_at global_mid) same_global given.global;
    } in
    let b = keeps tables some arisen holds in
    let queue_of : queue ≡ queued config.queue rules (places_of (staying rules before item)) =
    queue_is ∙ ap (λ s. queued_by config.queue rules s staying_now) given.sizes ∙ ap (queued config.queue rules) a.1 in
    let came : events_of head (unsuppressed (lines_with config rules old) head queue) ≡ arising config rules before item =
    ap (λ q. events_of head (unsuppressed (lines_with config rules old) head q)) queue_of in
    let more : arisen ++ events_of head (unsuppressed (lines_with config rules old) head queue)
    ≡ trail (arising config rules) (before ++ item ∷ []) =
    ap (λ l. arisen ++ l) came ∙ trail-more (arising config rules) before item in
    let both =
    subst (λ (l : List Event). AreBothOf (lines_with config rules old) l
    (record { own = new.own; global = new.global; written = written })) more b.0 in (
      record {
        config_sound = given.config_sound;
        rules_sound = given.rules_sound;
        sizes = sizes ∙ given.sizes;
        own_places = own_places ∙ given.own_places;
        global_places = global_places ∙ given.global_places;
        matches =
            subst (λ (l : List Event). AreAfter (match_key rules) (match_line rules) l (window_at new.matches))
            (trail-more (λ (b : List Item) (i : Item). matches i) before item)
            a.0;
        own = both.own;
        global = both.global;
      },
      b.1 ∙ ap (λ l. out ++ places_of (trail_from (filtered config.filters rules) arisen l)) came,
    )

-- filters that are as before stand for the same items
pub IsGiven-same : (config : Config) (rules : List Rule) (items : List Item) (old new : FiltersState) → IsSame old new → IsGiven config rules items old → IsGiven config rules items new
unfolding IsGiven
IsGiven-same config rules items old new same given =
    let some = AreSome-events config.filters given.config_sound.filters in record {
      config_sound = given.config_sound;
      rules_sound = given.rules_sound;
      sizes = same.sizes ∙ given.sizes;
      own_places = same.own_places ∙ given.own_places;
      global_places = same.global_places ∙ given.global_places;
      matches =
          AreAfter-same (match_key rules) (match_line rules) (AreSome-matches rules given.rules_sound)
          (trail (λ (b : List Item) (i : Item). matches i) items)
          (window_at old.matches) (window_at new.matches) same.matches given.matches;
      own =
          AreAfter-same (event_key (own_place config.filters) config.filters rules)
          (event_line config.filters) some (trail (arising config rules) items) (window_at old.own) (window_at new.own) same.own
          given.own;
      global =
          AreAfter-same (event_key (global_place config.filters) config.filters rules)
          (event_line config.filters) some
          (trail (own_kept config.filters rules) (trail (arising config rules) items))
          (window_at old.global) (window_at new.global) same.global given.global;
    }
