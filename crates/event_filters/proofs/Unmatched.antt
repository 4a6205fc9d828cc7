-- Items that no rule matches are nothing to the filters.
use Rattle.std.proofs.Common.{◌≡◌, ℕ, ◌==◌, Bool, true, false, not, cond, List, [], ◌∷◌, ◌++◌, length, map, take, refl, sym, ap, subst, ◌∙◌, arith}
use Rattle.std.specs.List.{filter}
use Rattle.std.proofs.Math.Seq.{take-nil}
use Rattle.std.proofs.lemmas.Bool.{false≢true}
use Rattle.std.proofs.lemmas.Bool.Decides.{nat_tests}
use Rattle.std.proofs.lemmas.List.{append-nil}
use Rattle.std.proofs.lemmas.List.Elements.{filter-append}
use Rattle.edge_io.specs.Along.{chained, trail, trail_from}
use Rattle.conf_types.specs.declared.config.Config.{Config}
use Rattle.conf_types.specs.declared.config.QueueLimits.{QueueLimits}
use Rattle.rule_types.specs.declared.rule.Rule.{Rule}
use Rattle.event_filters.specs.Counting.{Event}
use Rattle.event_filters.specs.Events.{Item, arising, event_key, event_line, events_of, filtered, global_place, is_matched}
use Rattle.event_filters.specs.Events.{is_suppressed, kept, match_key, match_line, match_stays, matched, matches, own_kept}
use Rattle.event_filters.specs.Events.{own_place, places_of, staying}
use Rattle.event_filters.specs.Queue.{comes_before, longest_content, ordered, queued}
use Rattle.event_filters.specs.Filtering.{FiltersState, IsGiven}
use Rattle.event_filters.specs.Windows.{AreAfter, window_at}

-- a trail goes by the inputs that pass a test, where the others give nothing and no answer looks at them
module _ {X A : Type 0} (p : X → Bool) (f : List X → X → List A) (nothing : (before : List X) (x : X) → p x ≡ false → f before x ≡ [])
    (by : (xs ys : List X) (x : X) → filter p xs ≡ filter p ys → f xs x ≡ f ys x) where
  passed : (b : Bool) (x : X) → p x ≡ b → (before : List X) → filter p (before ++ x ∷ []) ≡ filter p before ++ cond b (x ∷ []) []
  passed b x is before = filter-append p before (x ∷ []) ∙ ap (λ c. filter p before ++ cond c (x ∷ []) []) is

  trail_from-passed : (before other xs : List X) → filter p before ≡ filter p other → trail_from f before xs ≡ trail_from f other (filter p xs)
  trail_from-passed before other [] same = refl
  trail_from-passed before other (x ∷ xs) same = by_test (p x) refl (λ (at : List X) (left : filter p (before ++ x ∷ []) ≡ filter p at). trail_from-passed (before ++ x ∷ []) at xs left)
    where
      by_test : (b : Bool) → p x ≡ b → ((at : List X) → filter p (before ++ x ∷ []) ≡ filter p at → trail_from f (before ++ x ∷ []) xs ≡ trail_from f at (filter p xs))
          → f before x ++ trail_from f (before ++ x ∷ []) xs ≡ trail_from f other (cond (p x) (x ∷ filter p xs) (filter p xs))
      by_test true is rest =
          let both : filter p (before ++ x ∷ []) ≡ filter p (other ++ x ∷ []) = passed true x is before ∙ ap (λ front. front ++ x ∷ []) same ∙ sym (passed true x is other) in
          (λ i. by before other x same i ++ rest (other ++ x ∷ []) both i)
          ∙ ap (λ c. trail_from f other (cond c (x ∷ filter p xs) (filter p xs))) (sym is)
      by_test false is rest =
          let left : filter p (before ++ x ∷ []) ≡ filter p other = passed false x is before ∙ append-nil (filter p before) ∙ same in
          ap (λ front. front ++ trail_from f (before ++ x ∷ []) xs) (nothing before x is)
          ∙ rest other left
          ∙ ap (λ c. trail_from f other (cond c (x ∷ filter p xs) (filter p xs))) (sym is)

  pub trail-passed : (xs ys : List X) → filter p xs ≡ filter p ys → trail f xs ≡ trail f ys
  trail-passed xs ys same = trail_from-passed [] [] xs refl ∙ ap (trail f) same ∙ sym (trail_from-passed [] [] ys refl)

-- a list of some elements has a length
some_length : (place : ℕ) (places : List ℕ) → (length (place ∷ places) == 0) ≡ false
some_length place places = grind (arith, nat_tests)

-- an item that fails the test has no match
pub unmatched-none : (hits : List ℕ) → not (length hits == 0) ≡ false → hits ≡ []
unmatched-none [] is = refl
unmatched-none (place ∷ places) is = absurd (false≢true (sym is ∙ ap not (some_length place places)))

matches-none : (before : List Item) (item : Item) → is_matched item ≡ false → matches item ≡ []
matches-none before item is = ap (events_of item.head) (unmatched-none item.hits is)

matches-passed : (xs ys : List Item) → matched xs ≡ matched ys → trail (λ (before : List Item) (item : Item). matches item) xs ≡ trail (λ (before : List Item) (item : Item). matches item) ys
matches-passed = trail-passed is_matched (λ (before : List Item) (item : Item). matches item) matches-none (λ xs ys item same. refl)

-- of no match no event arises
queued-none : (queue : QueueLimits) (rules : List Rule) → queued queue rules [] ≡ []
unfolding queued
queued-none queue rules =
    ap (λ (events : List ℕ). take queue.log (ordered (comes_before queue.by_priority rules (map longest_content rules)) events)) (take-nil queue.max_queue)
    ∙ take-nil queue.log

arising-none : (config : Config) (rules : List Rule) (before : List Item) (item : Item) → item.hits ≡ [] → arising config rules before item ≡ []
unfolding arising
arising-none config rules before item none =
    ap (λ (places : List ℕ). events_of item.head (filter (λ place. not (is_suppressed config.suppress rules item.head place))
    (queued config.queue rules (places_of (trail_from (match_stays rules) (trail (λ (b : List Item) (i : Item). matches i) before) (events_of item.head places)))))) none
    ∙ ap (λ (places : List ℕ). events_of item.head (filter (λ place. not (is_suppressed config.suppress rules item.head place)) places)) (queued-none config.queue rules)

arising-same : (config : Config) (rules : List Rule) (xs ys : List Item) (item : Item) → matched xs ≡ matched ys → arising config rules xs item ≡ arising config rules ys item
unfolding arising
arising-same config rules xs ys item same =
    ap (λ (earlier : List Event). events_of item.head (filter (λ place. not (is_suppressed config.suppress rules item.head place))
    (queued config.queue rules (places_of (trail_from (match_stays rules) earlier (matches item)))))) (matches-passed xs ys same)

arising-passed : (config : Config) (rules : List Rule) (xs ys : List Item) → matched xs ≡ matched ys → trail (arising config rules) xs ≡ trail (arising config rules) ys
arising-passed config rules = trail-passed is_matched (arising config rules) (λ before item is. arising-none config rules before item (unmatched-none item.hits is)) (arising-same config rules)

-- what is kept of an item
pub kept-none : (config : Config) (rules : List Rule) (before : List Item) (item : Item) → item.hits ≡ [] → kept config rules before item ≡ []
unfolding kept
kept-none config rules before item none =
    ap (λ (events : List Event). places_of (trail_from (filtered config.filters rules) (trail (arising config rules) before) events)) (arising-none config rules before item none)

pub kept-matched : (config : Config) (rules : List Rule) (xs ys : List Item) (item : Item) → matched xs ≡ matched ys → kept config rules xs item ≡ kept config rules ys item
unfolding kept
kept-matched config rules xs ys item same =
    λ i. places_of (trail_from (filtered config.filters rules) (arising-passed config rules xs ys same i) (arising-same config rules xs ys item same i))

-- filters stand for any items of which the same ones are matched
pub IsGiven-matched : (config : Config) (rules : List Rule) (xs ys : List Item) (state : FiltersState) → matched xs ≡ matched ys → IsGiven config rules xs state → IsGiven config rules ys state
unfolding IsGiven
IsGiven-matched config rules xs ys state same given =
    let arisen = arising-passed config rules xs ys same in
    record {
      config_sound = given.config_sound;
      rules_sound = given.rules_sound;
      sizes = given.sizes;
      own_places = given.own_places;
      global_places = given.global_places;
      matches =
          subst (λ (events : List Event). AreAfter (match_key rules) (match_line rules) events (window_at state.matches))
          (matches-passed xs ys same) given.matches;
      own =
          subst (λ (events : List Event). AreAfter (event_key (own_place config.filters) config.filters rules)
          (event_line config.filters) events (window_at state.own)) arisen given.own;
      global =
          subst (λ (events : List Event). AreAfter (event_key (global_place config.filters) config.filters rules)
          (event_line config.filters)
          (trail (own_kept config.filters rules) events)
          (window_at state.global)) arisen given.global;
    }
