-- A window stands for its interval, once one event more has come.
use Rattle.std.proofs.Common.{◌≡◌, ℕ, ◌+◌, ◌-◌, ◌*◌, ◌<◌, ◌≤◌, Bool, true, false, cond, ltb, List, [], ◌∷◌, ◌++◌, length, map, inl, inr, refl, sym, ap, subst, ◌∙◌, arith, Some, None, length-append}
use Rattle.std.specs.Prelude.{Option, fold}
use Rattle.std.specs.List.{filter}
use Rattle.std.proofs.lemmas.Bool.Decides.{nat_tests}
use Rattle.std.proofs.lemmas.List.{append-nil, map-append}
use Rattle.std.proofs.lemmas.List.Elements.{filter-append}
use Rattle.std.proofs.lemmas.List.Sums.{fold-append}
use Rattle.event_filters.specs.declared.counting.CountKey.{CountKey}
use Rattle.event_filters.specs.declared.counting.CountLine.{CountLine}
use Rattle.event_filters.specs.declared.counting.Window.{Window}
use Rattle.event_filters.specs.Counting.{Event, moment_of, interval_after, interval_of, windowed, has_key, moments_of}
use Rattle.event_filters.specs.Windows.{IsWindowOf, next_number, next_window, shown}
use Rattle.event_filters.proofs.Numbers.{next_number-shown, shown-one}

pub interval_of-more : (seconds : ℕ) (moments : List ℕ) (moment : ℕ) → interval_of seconds (moments ++ moment ∷ []) ≡ interval_after seconds (interval_of seconds moments) moment
interval_of-more seconds moments moment = fold-append (interval_after seconds) [] moments (moment ∷ [])

pub windowed-is : (earlier : List ℕ) (moment seconds : ℕ) → windowed earlier moment seconds ≡ length (interval_after seconds (interval_of seconds earlier) moment)
unfolding windowed
windowed-is earlier moment seconds = ap length (interval_of-more seconds earlier moment)

-- what is kept of a window, told by its parts
window : ℕ → ℕ → Window
window start number = record { start = start; number = number }

length-more : (start : ℕ) (later : List ℕ) (moment : ℕ) → length ((start ∷ later) ++ moment ∷ []) ≡ length later + 1 + 1
length-more start later moment = omega (arith, length-append later (moment ∷ []))

-- the interval goes on, or another begins
goes_on : (line : CountLine) (start : ℕ) (later : List ℕ) (moment : ℕ) → 0 < line.count → (b : Bool)
    → IsWindowOf line (cond b ((start ∷ later) ++ moment ∷ []) (moment ∷ []))
    (Some (cond b (record { start = start; number = next_number line.kind line.count (shown line.kind line.count (length (start ∷ later))) }) (record { start = moment; number = 1 })))
goes_on line start later moment some true =
    let longer : length (start ∷ (later ++ moment ∷ [])) ≡ length later + 1 + 1 =
    omega (arith, length-append later (moment ∷ [])) in
    let long : length (start ∷ later) ≡ length later + 1 = omega arith in
    let number =
    ap (λ n. next_number line.kind line.count (shown line.kind line.count n)) long
    ∙ next_number-shown line.kind line.count (length later) some
    ∙ ap (shown line.kind line.count) (sym longer) in
    ap (λ (n : ℕ). Some (record { start = start; number = n })) number
goes_on line start later moment some false =
    let one : length (moment ∷ []) ≡ 1 = omega arith in
    ap (λ (n : ℕ). Some (record { start = moment; number = n })) (sym (ap (shown line.kind line.count) one ∙ shown-one line.kind line.count some))

pub IsWindowOf-next : (line : CountLine) (interval : List ℕ) (old : Option Window) (moment : ℕ)
    → 0 < line.count
    → IsWindowOf line interval old
    → IsWindowOf line (interval_after line.seconds interval moment) (Some (next_window line old moment))
IsWindowOf-next line [] old moment some is =
    let one : length (moment ∷ []) ≡ 1 = omega arith in
    ap (λ (o : Option Window). Some (next_window line o moment)) is
    ∙ ap (λ (n : ℕ). Some (record { start = moment; number = n })) (sym (ap (shown line.kind line.count) one ∙ shown-one line.kind line.count some))
IsWindowOf-next line (start ∷ later) old moment some is =
    let new = goes_on line start later moment some (ltb moment (start + line.seconds * 1000000000)) in
    subst (λ (o : Option Window). IsWindowOf line (interval_after line.seconds (start ∷ later) moment) (Some (next_window line o moment))) (sym is) new

-- the number of a window is what its line can tell of its interval's
pub window_number : (line : CountLine) (interval : List ℕ) (w : Window) → IsWindowOf line interval (Some w) → (m : ℕ) × (length interval ≡ m + 1) × (w.number ≡ shown line.kind line.count (m + 1))
window_number line [] w is = cc
window_number line (start ∷ later) w is =
    let long : length (start ∷ later) ≡ length later + 1 = omega arith in
    (length later, long, number w is ∙ ap (shown line.kind line.count) long)
  where
    number : (v : Window) → Some v ≡ Some (record { start = start; number = shown line.kind line.count (length (start ∷ later)) }) → v.number ≡ shown line.kind line.count (length (start ∷ later))
    number v same = cc

-- the moments of a key, once one event more has come
pub moments_of-more : (key_of : Event → Option CountKey) (key : CountKey) (events : List Event) (event : Event)
    → moments_of key_of key (events ++ event ∷ []) ≡
    moments_of key_of key events ++ cond (has_key key_of key event) (moment_of event ∷ []) []
moments_of-more key_of key events event =
    ap (map moment_of) (filter-append (has_key key_of key) events (event ∷ []))
    ∙ map-append moment_of (filter (has_key key_of key) events) (filter (has_key key_of key) (event ∷ []))
    ∙ ap (λ rest. moments_of key_of key events ++ rest) (last (has_key key_of key event))
  where
    last : (b : Bool) → map moment_of (cond b (event ∷ []) []) ≡ cond b (moment_of event ∷ []) []
    last true = refl
    last false = refl
