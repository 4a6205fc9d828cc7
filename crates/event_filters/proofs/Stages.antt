-- One event through a line that counts: the answer, and what the windows stand for after it.
use Rattle.std.proofs.Common.{◌≡◌, ℕ, ◌+◌, ◌<◌, Bool, true, false, cond, List, [], ◌∷◌, ◌++◌, length, refl, sym, ap, subst, ◌∙◌, arith, Some, None}
use Rattle.std.specs.Prelude.{Option}
use Rattle.std.specs.Option.{option_map_or}
use Rattle.std.proofs.lemmas.List.{append-nil}
use Rattle.event_filters.specs.declared.counting.Count.{Count}
use Rattle.event_filters.specs.declared.counting.CountKey.{CountKey}
use Rattle.event_filters.specs.declared.counting.CountLine.{CountLine}
use Rattle.event_filters.specs.declared.counting.Window.{Window}
use Rattle.event_filters.specs.Keys.{same_key}
use Rattle.event_filters.specs.Counting.{Event, moment_of, interval_after, interval_of, windowed, lets, has_key, moments_of, number_of, passes, counted}
use Rattle.event_filters.specs.Windows.{Windows, IsWindowOf, AreAfter, answer_of, windows_after, next_window, shows, shown, IsCountOf}
use Rattle.event_filters.proofs.KeyTests.{same_key-refl, same_key-true, same_key-sym}
use Rattle.event_filters.proofs.Numbers.{shows-shown}
use Rattle.event_filters.proofs.Intervals.{interval_of-more, windowed-is, IsWindowOf-next, window_number, moments_of-more}

-- what a window shows is what the line decides by the number in the interval
shows_is : (line : CountLine) (interval : List ℕ) (w : Window) → 0 < line.count → IsWindowOf line interval (Some w) → shows line.kind line.count w.number ≡ lets line.kind line.count (length interval)
shows_is line interval w some is =
    let n = window_number line interval w is in
    ap (shows line.kind line.count) n.2 ∙ shows-shown line.kind line.count n.0 some ∙ ap (lets line.kind line.count) (sym n.1)

module _ (key_of : Event → Option CountKey) (line_at : CountKey → CountLine) (some : (key : CountKey) → 0 < (line_at key).count) where
  -- the window of the event's key, once the event has come
  window_next : (events : List Event) (event : Event) (windows : Windows) (key : CountKey)
      → AreAfter key_of line_at events windows
      → IsWindowOf (line_at key)
      (interval_after (line_at key).seconds (interval_of (line_at key).seconds (moments_of key_of key events)) (moment_of event))
      (Some (next_window (line_at key) (windows key) (moment_of event)))
  unfolding AreAfter
  window_next events event windows key hold =
      IsWindowOf-next (line_at key) (interval_of (line_at key).seconds (moments_of key_of key events)) (windows key) (moment_of event) (some key) (hold key)

  answer_at : (events : List Event) (event : Event) (windows : Windows) (key : CountKey) → AreAfter key_of line_at events windows
      → passes key_of line_at events event (Some key) ≡ shows (line_at key).kind (line_at key).count (next_window (line_at key) (windows key) (moment_of event)).number
  answer_at events event windows key hold =
      ap (lets (line_at key).kind (line_at key).count)
      (windowed-is (moments_of key_of key events) (moment_of event) (line_at key).seconds)
      ∙ sym (shows_is (line_at key)
      (interval_after (line_at key).seconds (interval_of (line_at key).seconds (moments_of key_of key events)) (moment_of event))
      (next_window (line_at key) (windows key) (moment_of event))
      (some key)
      (window_next events event windows key hold))

  -- the answer of the windows is that of the list
  pub passes-answer : (events : List Event) (event : Event) (windows : Windows) (count : Option Count) → IsCountOf key_of line_at event count → AreAfter key_of line_at events windows
      → passes key_of line_at events event (key_of event) ≡ answer_of windows count (moment_of event)
  passes-answer events event windows None is hold = ap (passes key_of line_at events event) is
  passes-answer events event windows (Some count) is hold =
      ap (passes key_of line_at events event) is.0 ∙ answer_at events event windows count.key hold
      ∙ ap (λ (line : CountLine). shows line.kind line.count (next_window line (windows count.key) (moment_of event)).number) is.1

  pub counted-answer : (events : List Event) (event : Event) (windows : Windows) (count : Option Count) → IsCountOf key_of line_at event count → AreAfter key_of line_at events windows
      → counted key_of line_at events event ≡ cond (answer_of windows count (moment_of event)) (event ∷ []) []
  counted-answer events event windows count is hold = ap (λ b. cond b (event ∷ []) []) (passes-answer events event windows count is hold)

  -- a key that is not the event's has the same moments
  same_moments : (events : List Event) (event : Event) (key : CountKey) → has_key key_of key event ≡ false → moments_of key_of key (events ++ event ∷ []) ≡ moments_of key_of key events
  same_moments events event key other =
      moments_of-more key_of key events event ∙ ap (λ b. moments_of key_of key events ++ cond b (moment_of event ∷ []) []) other
      ∙ append-nil (moments_of key_of key events)

  -- the event's key has one moment more
  more_moments : (events : List Event) (event : Event) (key : CountKey)
      → has_key key_of key event ≡ true
      → moments_of key_of key (events ++ event ∷ []) ≡ moments_of key_of key events ++ moment_of event ∷ []
  more_moments events event key own =
      moments_of-more key_of key events event ∙ ap (λ b. moments_of key_of key events ++ cond b (moment_of event ∷ []) []) own

  key_without : (event : Event) (key : CountKey) → key_of event ≡ None → has_key key_of key event ≡ false
  key_without event key is = ap (λ o. option_map_or (same_key key) o false) is

  key_with : (event : Event) (key other : CountKey) (b : Bool) → key_of event ≡ Some key → same_key key other ≡ b → has_key key_of other event ≡ b
  key_with event key other b is same = ap (λ o. option_map_or (same_key other) o false) is ∙ same_key-sym other key ∙ same

  -- the windows at one key, once the event has come
  at_key : (events : List Event) (event : Event) (windows : Windows) (key other : CountKey) (line : CountLine) (b : Bool)
      → key_of event ≡ Some key
      → line_at key ≡ line
      → same_key key other ≡ b
      → AreAfter key_of line_at events windows
      → IsWindowOf (line_at other) (interval_of (line_at other).seconds (moments_of key_of other (events ++ event ∷ [])))
      (cond b (Some (next_window line (windows key) (moment_of event))) (windows other))
  unfolding AreAfter
  at_key events event windows key other line true is same own hold =
      let e = same_key-true key other own in
      let seconds = (line_at other).seconds in
      let next : next_window (line_at other) (windows other) (moment_of event)
      ≡ next_window line (windows key) (moment_of event) =
      ap (λ l. next_window l (windows other) (moment_of event)) (ap line_at (sym e) ∙ same)
      ∙ ap (λ k. next_window line (windows k) (moment_of event)) (sym e) in
      let moments =
      ap (interval_of seconds) (more_moments events event other (key_with event key other true is own))
      ∙ interval_of-more seconds (moments_of key_of other events) (moment_of event) in
      let there =
      subst (λ (w : Window). IsWindowOf (line_at other)
      (interval_after seconds (interval_of seconds (moments_of key_of other events)) (moment_of event))
      (Some w)) next (window_next events event windows other hold) in
      subst (λ (i : List ℕ). IsWindowOf (line_at other) i (Some (next_window line (windows key) (moment_of event))))
      (sym moments) there
  at_key events event windows key other line false is same apart hold =
      let moments = ap (interval_of (line_at other).seconds) (same_moments events event other (key_with event key other false is apart)) in
      subst (λ (i : List ℕ). IsWindowOf (line_at other) i (windows other)) (sym moments) (hold other)

  -- the windows after the event stand for one event more
  pub hold-more : (events : List Event) (event : Event) (old new : Windows) (count : Option Count) → IsCountOf key_of line_at event count → AreAfter key_of line_at events old
      → ((key : CountKey) → new key ≡ windows_after old count (moment_of event) key) → AreAfter key_of line_at (events ++ event ∷ []) new
  unfolding AreAfter
  hold-more events event old new None is hold after = λ other.
      let moments = ap (interval_of (line_at other).seconds) (same_moments events event other (key_without event other is)) in
      subst (λ (w : Option Window). IsWindowOf (line_at other) (interval_of (line_at other).seconds (moments_of key_of other (events ++ event ∷ []))) w) (sym (after other))
      (subst (λ (i : List ℕ). IsWindowOf (line_at other) i (old other)) (sym moments) (hold other))
  hold-more events event old new (Some count) is hold after = λ other.
      subst (λ (w : Option Window). IsWindowOf (line_at other) (interval_of (line_at other).seconds (moments_of key_of other (events ++ event ∷ []))) w) (sym (after other))
      (at_key events event old count.key other count.line (same_key count.key other) is.0 is.1 refl hold)

  -- the same windows stand for the same events
  pub AreAfter-same : (events : List Event) (old new : Windows) → ((key : CountKey) → new key ≡ old key) → AreAfter key_of line_at events old → AreAfter key_of line_at events new
  unfolding AreAfter
  AreAfter-same events old new same hold = λ key.
      subst (λ (w : Option Window). IsWindowOf (line_at key) (interval_of (line_at key).seconds (moments_of key_of key events)) w) (sym (same key)) (hold key)
