-- Where there is room for all flows, none is ended by another: each key has one number, and no two have the same.
use Rattle.std.proofs.Common.{◌≡◌, ℕ, zero, suc, ◌+◌, ◌≤◌, ◌==◌, ◌&&◌, ◌||◌, Bool, true, false, cond, not, List, [], ◌∷◌, ◌++◌, None, map, refl, sym, ap, ◌∙◌, append-nil, arith}
use Rattle.std.specs.List.{All, filter, find, range_with_len}
use Rattle.std.specs.Option.{option_map}
use Rattle.std.proofs.lemmas.Bool.{false≢true, eqb-true, eq-eqb}
use Rattle.std.proofs.lemmas.List.{map-append, take_all}
use Rattle.std.proofs.lemmas.List.Elements.{All-append, All-cons, All-head, All-map, All-nil, All-tail, All-weaker, filter-append}
use Rattle.std.proofs.lemmas.Map.Views.{any-filter_same}
use Rattle.stream5_sessions.specs.declared.key.Key.{Key}
use Rattle.stream5_sessions.specs.Keys.{is_of, same_key}
use Rattle.stream5_sessions.specs.Liveness.{MaxFlows, begun, distinct_count, ends_life, evicted_flow, flow_number, is_live, is_live_flow, is_touched, live_flows, max_for}
use Rattle.stream5_sessions.proofs.KeyLaws.{same_key-is, same_key-self}
use Rattle.stream5_sessions.proofs.Liveness.Numbers.{flow_number-apart, live_flow}
use Rattle.stream5_sessions.proofs.Liveness.Protocols.{is_live-recent, is_touched-filter}
use Rattle.stream5_sessions.proofs.Liveness.Recent.{is_touched-recent, length-recent, recent}

-- ---- lists

-- a test that says the same of each
pub filter-same : {X : Type 0} (test : X → Bool) (b : Bool) (xs : List X) → All (λ (x : X). test x ≡ b) xs → filter test xs ≡ cond b xs []
filter-same test true [] all = refl
filter-same test false [] all = refl
filter-same {X} test true (x ∷ xs) all =
    ap (λ (c : Bool). cond c (x ∷ filter test xs) (filter test xs)) (All-head (λ (y : X). test y ≡ true) x xs all)
    ∙ ap (λ (ys : List X). x ∷ ys) (filter-same test true xs (All-tail (λ (y : X). test y ≡ true) x xs all))
filter-same {X} test false (x ∷ xs) all =
    ap (λ (c : Bool). cond c (x ∷ filter test xs) (filter test xs)) (All-head (λ (y : X). test y ≡ false) x xs all)
    ∙ filter-same test false xs (All-tail (λ (y : X). test y ≡ false) x xs all)

-- two functions that say the same of each
map-same : {X Y : Type 0} (f g : X → Y) (xs : List X) → All (λ (x : X). f x ≡ g x) xs → map f xs ≡ map g xs
map-same f g [] all = refl
map-same {X} {Y} f g (x ∷ xs) all =
    ap (λ (y : Y). y ∷ map f xs) (All-head (λ (z : X). f z ≡ g z) x xs all) ∙ ap (λ (ys : List Y). g x ∷ ys) (map-same f g xs (All-tail (λ (z : X). f z ≡ g z) x xs all))

range-last : (first count last : ℕ) → first + count ≡ last → range_with_len first (suc count) ≡ range_with_len first count ++ last ∷ []
range-last first zero last is = let same : first ≡ last = omega (arith, is) in ap (λ (n : ℕ). n ∷ []) same
range-last first (suc count) last is = ap (λ (ns : List ℕ). first ∷ ns) (range-last (first + 1) count last (omega (arith, is)))

range-more : (count : ℕ) → range_with_len 0 (count + 1) ≡ range_with_len 0 count ++ count ∷ []
range-more count = let on : count + 1 ≡ suc count = omega arith in ap (range_with_len 0) on ∙ range-last 0 count count (omega arith)

-- ---- keys in the order of their first touches

abbrev pub first_keys : List Key → List Key
first_keys [] = []
first_keys (key ∷ earlier) = cond (is_touched earlier key) (first_keys earlier) (first_keys earlier ++ key ∷ [])

-- the first keys of the touches of which a test is true are the first keys of which it is true
pub first-filtered : (test : Key → Bool) (touches : List Key) → first_keys (filter test touches) ≡ filter test (first_keys touches)
first-filtered test [] = refl
first-filtered test (key ∷ earlier) = by_test (test key) refl (first-filtered test earlier)
  where
    by_touched : (b c : Bool) → test key ≡ c
        → filter test (cond b (first_keys earlier) (first_keys earlier ++ key ∷ [])) ≡ cond b (filter test (first_keys earlier)) (filter test (first_keys earlier) ++ cond c (key ∷ []) [])
    by_touched true c is = refl
    by_touched false c is = filter-append test (first_keys earlier) (key ∷ []) ∙ ap (λ (d : Bool). filter test (first_keys earlier) ++ cond d (key ∷ []) []) is

    either : (b : Bool) (keys : List Key) → cond b keys (keys ++ []) ≡ keys
    either true keys = refl
    either false keys = append-nil keys

    by_test : (b : Bool) → test key ≡ b → first_keys (filter test earlier) ≡ filter test (first_keys earlier)
        → first_keys (cond b (key ∷ filter test earlier) (filter test earlier)) ≡ filter test (cond (is_touched earlier key) (first_keys earlier) (first_keys earlier ++ key ∷ []))
    by_test true is rest =
        ap (λ (b : Bool). cond b (first_keys (filter test earlier)) (first_keys (filter test earlier) ++ key ∷ []))
        (any-filter_same (same_key key) test true (λ other same. ap test (sym (same_key-is key other same)) ∙ is) earlier)
        ∙ ap (λ (keys : List Key). cond (is_touched earlier key) keys (keys ++ key ∷ [])) rest
        ∙ sym (by_touched (is_touched earlier key) true is)
    by_test false isnt rest =
        rest ∙ sym (by_touched (is_touched earlier key) false isnt ∙ either (is_touched earlier key) (filter test (first_keys earlier)))

module _ (max : MaxFlows) where
  -- there are no more keys of either protocol than may live
  abbrev pub Room : List Key → Type 0
  Room touches = (tcp : Bool) → distinct_count (filter (is_of tcp) touches) ≤ max_for max tcp

  -- every key that was touched lives
  pub touched-lives : (touches : List Key) (key : Key) → Room touches → is_live max touches key ≡ is_touched touches key
  touched-lives touches key room =
      let own = filter (is_of key.tcp) touches in
      let few = room key.tcp in
      is_live-recent max touches key
      ∙ ap (λ (keys : List Key). is_touched keys key) (take_all (max_for max key.tcp) (recent own) (omega (arith, length-recent own, few)))
      ∙ is_touched-recent own key
      ∙ is_touched-filter key touches

  -- earlier there were no more
  pub room-earlier : (key : Key) (touches : List Key) → Room (key ∷ touches) → Room touches
  room-earlier key touches room tcp = by_protocol (is_of tcp key) (room tcp)
    where
      own : List Key
      own = filter (is_of tcp) touches

      by_count : (b : Bool) → cond b (distinct_count own) (distinct_count own + 1) ≤ max_for max tcp → distinct_count own ≤ max_for max tcp
      by_count true few = few
      by_count false few = omega (arith, few)

      by_protocol : (b : Bool) → distinct_count (cond b (key ∷ own) own) ≤ max_for max tcp → distinct_count own ≤ max_for max tcp
      by_protocol true few = by_count (is_touched own key) few
      by_protocol false few = few

  pub room-before : (later touches : List Key) → Room (later ++ touches) → Room touches
  room-before [] touches room = room
  room-before (key ∷ later) touches room = room-before later touches (room-earlier key (later ++ touches) room)

  or_true : (b : Bool) → (b || true) ≡ true
  or_true true = refl
  or_true false = refl

  pub touched-later : (later touches : List Key) (key : Key) → is_touched touches key ≡ true → is_touched (later ++ touches) key ≡ true
  touched-later [] touches key is = is
  touched-later (touch ∷ later) touches key is =
      ap (λ (b : Bool). same_key key touch || b) (touched-later later touches key is) ∙ or_true (same_key key touch)

  -- a key that was touched keeps its number
  number-kept : (touch : Key) (touches : List Key) (key : Key) → Room touches → is_touched touches key ≡ true
      → flow_number max (touch ∷ touches) key ≡ flow_number max touches key
  number-kept touch touches key room touched = by_key (same_key key touch) refl
    where
      by_key : (b : Bool) → same_key key touch ≡ b
          → cond b (cond (is_live max touches touch) (flow_number max touches touch) (begun max touches)) (flow_number max touches key) ≡ flow_number max touches key
      by_key true same =
          let is = same_key-is key touch same in
          let live = touched-lives touches key room ∙ touched in
          ap (λ (b : Bool). cond b (flow_number max touches touch) (begun max touches)) (ap (is_live max touches) (sym is) ∙ live) ∙ ap (flow_number max touches) (sym is)
      by_key false apart = refl

  pub number-later : (later touches : List Key) (key : Key) → Room (later ++ touches) → is_touched touches key ≡ true
      → flow_number max (later ++ touches) key ≡ flow_number max touches key
  number-later [] touches key room touched = refl
  number-later (touch ∷ later) touches key room touched =
      let room_too = room-earlier touch (later ++ touches) room in
      number-kept touch (later ++ touches) key room_too (touched-later later touches key touched) ∙ number-later later touches key room_too touched

  -- two keys that were touched have one number where they are one
  pub number-tells : (touches : List Key) (one other : Key) → is_touched touches one ≡ true → is_touched touches other ≡ true
      → (flow_number max touches one == flow_number max touches other) ≡ same_key one other
  number-tells touches one other touched as_well = by_key (same_key one other) refl
    where
      by_number : (b : Bool) → (flow_number max touches one == flow_number max touches other) ≡ b → same_key one other ≡ false → b ≡ false
      by_number true is apart =
          let one_key = flow_number-apart max touches one other touched as_well (eqb-true (flow_number max touches one) (flow_number max touches other) is) in
          absurd (false≢true (sym apart ∙ ap (same_key one) (sym one_key) ∙ same_key-self one))
      by_number false is apart = refl

      by_key : (b : Bool) → same_key one other ≡ b → (flow_number max touches one == flow_number max touches other) ≡ b
      by_key true same = eq-eqb (flow_number max touches one) (flow_number max touches other) (ap (flow_number max touches) (same_key-is one other same))
      by_key false apart = by_number (flow_number max touches one == flow_number max touches other) refl apart

  -- no touch ends a flow
  find-nothing : (test : Key → Bool) (keys : List Key) → ((key : Key) → test key ≡ false) → find test keys ≡ None
  find-nothing test [] never = refl
  find-nothing test (key ∷ keys) never = rw (never key) (find-nothing test keys never)

  pub none-ended : (key : Key) (touches : List Key) → Room (key ∷ touches) → evicted_flow max touches key ≡ None
  unfolding evicted_flow
  none-ended key touches room = ap (option_map (flow_number max touches)) (find-nothing (ends_life max touches key) touches never)
    where
      by_bools : (a b : Bool) → (a && not (b || a)) ≡ false
      by_bools true true = refl
      by_bools true false = refl
      by_bools false b = refl

      never : (other : Key) → ends_life max touches key other ≡ false
      never other =
          let before = touched-lives touches other (room-earlier key touches room) in
          let after = touched-lives (key ∷ touches) other room in
          ap (λ (a : Bool). a && not (is_live max (key ∷ touches) other)) before
          ∙ ap (λ (b : Bool). is_touched touches other && not b) after
          ∙ by_bools (is_touched touches other) (same_key other key)

  -- all flows live, one for each key in the order of their first touches
  pub first-touched : (touches : List Key) → All (λ (key : Key). is_touched touches key ≡ true) (first_keys touches)
  first-touched [] = All-nil (λ (key : Key). is_touched [] key ≡ true)
  first-touched (key ∷ earlier) = by_touched (is_touched earlier key) (first-touched earlier)
    where
      Touched : Key → Type 0
      Touched other = is_touched (key ∷ earlier) other ≡ true

      later : All (λ (other : Key). is_touched earlier other ≡ true) (first_keys earlier) → All Touched (first_keys earlier)
      later all = All-weaker (λ (other : Key). is_touched earlier other ≡ true) Touched (λ other is. touched-later (key ∷ []) earlier other is) (first_keys earlier) all

      by_touched : (b : Bool) → All (λ (other : Key). is_touched earlier other ≡ true) (first_keys earlier) → All Touched (cond b (first_keys earlier) (first_keys earlier ++ key ∷ []))
      by_touched true all = later all
      by_touched false all =
          All-append Touched (first_keys earlier) (key ∷ []) (later all) (All-cons Touched key [] (ap (λ (b : Bool). b || is_touched earlier key) (same_key-self key)) (All-nil Touched))

  pub first-numbers : (touches : List Key) → Room touches → map (flow_number max touches) (first_keys touches) ≡ range_with_len 0 (begun max touches)
  first-numbers [] room = refl
  first-numbers (key ∷ earlier) room = by_touched (is_touched earlier key) refl (first-numbers earlier (room-earlier key earlier room))
    where
      live : is_live max earlier key ≡ is_touched earlier key
      live = touched-lives earlier key (room-earlier key earlier room)

      kept : map (flow_number max (key ∷ earlier)) (first_keys earlier) ≡ map (flow_number max earlier) (first_keys earlier)
      kept =
          map-same (flow_number max (key ∷ earlier)) (flow_number max earlier) (first_keys earlier)
          (All-weaker (λ (other : Key). is_touched earlier other ≡ true) (λ (other : Key). flow_number max (key ∷ earlier) other ≡ flow_number max earlier other)
          (λ other is. number-kept key earlier other (room-earlier key earlier room) is) (first_keys earlier) (first-touched earlier))

      fresh : is_touched earlier key ≡ false → flow_number max (key ∷ earlier) key ≡ begun max earlier
      fresh isnt =
          ap (λ (b : Bool). cond b (cond (is_live max earlier key) (flow_number max earlier key) (begun max earlier)) (flow_number max earlier key)) (same_key-self key)
          ∙ ap (λ (b : Bool). cond b (flow_number max earlier key) (begun max earlier)) (live ∙ isnt)

      by_touched : (b : Bool) → is_touched earlier key ≡ b → map (flow_number max earlier) (first_keys earlier) ≡ range_with_len 0 (begun max earlier)
          → map (flow_number max (key ∷ earlier)) (cond b (first_keys earlier) (first_keys earlier ++ key ∷ []))
          ≡ range_with_len 0 (cond (is_live max earlier key) (begun max earlier) (begun max earlier + 1))
      by_touched true is are = kept ∙ are ∙ ap (λ (b : Bool). range_with_len 0 (cond b (begun max earlier) (begun max earlier + 1))) (sym (live ∙ is))
      by_touched false isnt are =
          map-append (flow_number max (key ∷ earlier)) (first_keys earlier) (key ∷ [])
          ∙ ap (λ (ns : List ℕ). ns ++ flow_number max (key ∷ earlier) key ∷ []) (kept ∙ are)
          ∙ ap (λ (n : ℕ). range_with_len 0 (begun max earlier) ++ n ∷ []) (fresh isnt)
          ∙ sym (range-more (begun max earlier))
          ∙ ap (λ (b : Bool). range_with_len 0 (cond b (begun max earlier) (begun max earlier + 1))) (sym (live ∙ isnt))

  pub all-live : (touches : List Key) → Room touches → live_flows max touches ≡ range_with_len 0 (begun max touches)
  unfolding live_flows
  all-live touches room =
      let numbers = first-numbers touches room in
      let each : All (λ (key : Key). is_live_flow max touches (flow_number max touches key) ≡ true) (first_keys touches) =
      All-weaker (λ (key : Key). is_touched touches key ≡ true) (λ (key : Key). is_live_flow max touches (flow_number max touches key) ≡ true)
      (λ key is. live_flow max touches (flow_number max touches key) key (touched-lives touches key room ∙ is) refl) (first_keys touches) (first-touched touches) in
      ap (filter (is_live_flow max touches)) (sym numbers)
      ∙ filter-same (is_live_flow max touches) true (map (flow_number max touches) (first_keys touches))
      (All-map (λ (n : ℕ). is_live_flow max touches n ≡ true) (flow_number max touches) (first_keys touches) each)
      ∙ numbers
