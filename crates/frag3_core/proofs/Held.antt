-- What waits is little, whatever fragments come.
use Rattle.std.proofs.Common.{◌≡◌, ℕ, ◌+◌, ◌*◌, ◌<◌, ◌≤◌, Bool, true, false, cond, List, [], ◌∷◌, Option, Some, None, IfSome, All}
use Rattle.std.proofs.Common.{length, fold, sum_by, unwrap_or, refl, sym, ap, subst, ◌∙◌, arith, nat_lt, max, get_or, ◌==◌}
use Rattle.std.specs.Map.{values_of}
use Rattle.std.specs.Option.{option_map, option_map_or}
use Rattle.std.proofs.lemmas.Bool.Decides.{nat_tests}
use Rattle.std.proofs.lemmas.List.{length_push, map-append}
use Rattle.std.proofs.lemmas.List.Elements.{All-push, All-head, All-tail}
use Rattle.std.proofs.lemmas.List.Sums.{sum_by-cons, sum_by-le}
use Rattle.std.proofs.lemmas.Map.Views.{All-map-remove_entry, IfSome-lookup_from_All}
use Rattle.overlap_core.specs.Segments.{Segment}
use Rattle.overlap_core.specs.Overlap.{covered_end}
use Rattle.frag3_core.specs.declared.answer.FragRules.{FragRules}
use Rattle.frag3_core.specs.declared.answer.Ignored.{Ignored}
use Rattle.frag3_core.specs.declared.answer.Ignored.TheVariants.{Ttl, Reach, Empty}
use Rattle.frag3_core.specs.declared.key.DatagramKey.{DatagramKey}
use Rattle.frag3_core.specs.Held.{held_bytes, longest, tracker_bytes}
use Rattle.frag3_core.specs.Trackers.{Fragment, Frag3State, Trackers, TrackerState, after, begun, datagram_of, end_of, found}
use Rattle.frag3_core.specs.Trackers.{held_count, ignored, in_time, is_timed_out, key_of, others, own, same_key, start_of}
use Rattle.frag3_core.specs.Trackers.{state_after, tracker_of, trackers_after, with_own, with_room, without}
use Rattle.frag3_core.proofs.Entries.{frags_of, held_count-cons, held_count-push, held_count-remove}
use Rattle.frag3_core.proofs.Steps.{with_room-below}

-- a fragment ends within a datagram
abbrev IsShort : Segment → Type 0
IsShort segment = segment.start + length segment.bytes ≤ longest

-- a tracker has fragments that do
abbrev AreShort : TrackerState → Type 0
AreShort t = All IsShort t.segments

abbrev IsSmall : TrackerState → Type 0
IsSmall t = (0 < length t.segments) × AreShort t

abbrev AllSmall : Trackers → Type 0
AllSmall trackers = All IsSmall (values_of trackers)

record IsHeld (most : ℕ) (state : Frag3State) : Type 0 where
  max : state.max_frags ≡ most
  few : held_count state.trackers ≤ most
  small : AllSmall state.trackers

-- ---- one fragment

if_all : {A : Type 0} (P : A → Type 0) (b : Bool) (x y : A) → P x → P y → P (cond b x y)
if_all P true x y one other = one
if_all P false x y one other = other

small_without : (key : DatagramKey) (ts : Trackers) → AllSmall ts → AllSmall (without key ts)
small_without key ts small = All-map-remove_entry (same_key key) (λ e. e.1) IsSmall ts small

small_with_room : (most : ℕ) (ts : Trackers) → AllSmall ts → AllSmall (with_room most ts)
small_with_room most [] small = small
small_with_room most (t ∷ ts) small =
    if_all AllSmall (nat_lt (held_count (t ∷ ts)) most) (t ∷ ts) (with_room most ts) small (small_with_room most ts (All-tail IsSmall t.1 (values_of ts) small))

small_in_time : (f : Fragment) (ts : Trackers) → AllSmall ts → AllSmall (in_time f ts)
small_in_time f ts small =
    if_all AllSmall (option_map_or (is_timed_out f.moment) (tracker_of (key_of f.ip) ts) false) (without (key_of f.ip) ts) ts (small_without (key_of f.ip) ts small) small

no_fragments : All IsShort []
no_fragments = λ k d below. absurd (omega (arith, below))

-- the tracker that a fragment finds, or begins
short_or_begun : (o : Option TrackerState) (moment : ℕ) (rules : FragRules) → IfSome o IsSmall → AreShort (unwrap_or o (begun moment rules))
short_or_begun None moment rules small = no_fragments
short_or_begun (Some t) moment rules small = small.1

count_or_begun : (o : Option TrackerState) (moment : ℕ) (rules : FragRules) → length (unwrap_or o (begun moment rules)).segments ≡ unwrap_or (option_map frags_of o) 0
count_or_begun None moment rules = refl
count_or_begun (Some t) moment rules = refl

within_datagram : (a b c : Bool) → cond a (Some Ttl) (cond b (Some Empty) (cond c (Some Reach) None)) ≡ None → c ≡ false
within_datagram true b c is = cc
within_datagram false true c is = cc
within_datagram false false true is = cc
within_datagram false false false is = refl

module _ (most : ℕ) (some : 0 < most) (frag3 : Frag3State) (f : Fragment) (held : IsHeld most frag3) where
  abbrev before : Trackers
  before = found frag3 f

  abbrev mine : TrackerState
  mine = own frag3 f

  small_before : AllSmall before
  small_before = small_with_room frag3.max_frags (in_time f frag3.trackers) (small_in_time f frag3.trackers held.small)

  few_before : held_count before < most
  few_before = omega (arith, held.max, with_room-below frag3.max_frags (in_time f frag3.trackers) (omega (arith, some, held.max)))

  small_own : ignored f.ip f.part f.rules ≡ None → IsSmall mine
  small_own taken =
      let found_one = tracker_of (key_of f.ip) before in
      let old = unwrap_or found_one (begun f.moment f.rules) in
      let reach = within_datagram (nat_lt f.ip.ttl f.rules.min_ttl) (length f.part == 0) (nat_lt 65535 (end_of f.ip f.part)) taken in
      let ends : end_of f.ip f.part ≤ 65535 = grind (arith, nat_tests, reach) in
      let short = short_or_begun found_one f.moment f.rules (IfSome-lookup_from_All IsSmall (same_key (key_of f.ip)) before small_before) in (
        omega (arith, length_push old.segments (record { start = start_of f.ip; bytes = f.part })),
        All-push IsShort old.segments (record { start = start_of f.ip; bytes = f.part }) short ends,
      )

  count_own : held_count (others frag3 f) + length mine.segments ≡ held_count before + 1
  count_own =
      let found_one = tracker_of (key_of f.ip) before in
      let old = unwrap_or found_one (begun f.moment f.rules) in
      omega (arith, length_push old.segments (record { start = start_of f.ip; bytes = f.part }), count_or_begun found_one f.moment f.rules, held_count-remove (key_of f.ip) before)

  held_with : ignored f.ip f.part f.rules ≡ None → (bytes : Option (List ℕ)) → IsHeld most (record frag3 { trackers = with_own (key_of f.ip) mine (others frag3 f) bytes })
  held_with taken None = record {
    max = held.max;
    few = omega (arith, held_count-push (others frag3 f) (key_of f.ip) mine, count_own, few_before);
    small =
        subst (All IsSmall) (sym (map-append (λ e. e.1) (others frag3 f) ((key_of f.ip, mine) ∷ [])))
        (All-push IsSmall (values_of (others frag3 f)) mine (small_without (key_of f.ip) before small_before) (small_own taken));
  }
  held_with taken (Some bytes) = record {
    max = held.max;
    few = omega (arith, count_own, few_before);
    small = small_without (key_of f.ip) before small_before;
  }

  held_by : (reason : Option Ignored) → ignored f.ip f.part f.rules ≡ reason → IsHeld most (option_map_or (λ (_ : Ignored). frag3) reason (record frag3 { trackers = trackers_after frag3 f }))
  held_by None taken = held_with taken (datagram_of (own frag3 f))
  held_by (Some reason) is = held

  held_after : IsHeld most (after frag3 f)
  unfolding after
  held_after = held_by (ignored f.ip f.part f.rules) refl

held_all : (most : ℕ) → 0 < most → (fragments : List Fragment) (frag3 : Frag3State) → IsHeld most frag3 → IsHeld most (fold after frag3 fragments)
held_all most some [] frag3 held = held
held_all most some (f ∷ fs) frag3 held = held_all most some fs (after frag3 f) (held_after most some frag3 f held)

held : (most : ℕ) (fragments : List Fragment) → 0 < most → IsHeld most (state_after most fragments)
unfolding state_after
held most fragments some = held_all most some fragments (record { max_frags = most; trackers = [] }) (record { max = refl; few = omega arith; small = λ k d below. absurd (omega (arith, below)) })

-- ---- what is held

pub fragments_few : (most : ℕ) (fragments : List Fragment) → 0 < most → held_count (state_after most fragments).trackers ≤ most
fragments_few most fragments some = (held most fragments some).few

count_small : (ts : Trackers) → AllSmall ts → length ts ≤ held_count ts
count_small [] small = omega arith
count_small (t ∷ ts) small =
    let first = (All-head IsSmall t.1 (values_of ts) small).0 in
    omega (arith, first, held_count-cons t ts, count_small ts (All-tail IsSmall t.1 (values_of ts) small))

pub datagrams_few : (most : ℕ) (fragments : List Fragment) → 0 < most → length (state_after most fragments).trackers ≤ most
datagrams_few most fragments some =
    let is = held most fragments some in
    omega (arith, is.few, count_small (state_after most fragments).trackers is.small)

bytes_small : (segments : List Segment) → All IsShort segments → sum_by (λ (segment : Segment). length segment.bytes) segments ≤ length segments * longest
bytes_small segments short = sum_by-le (λ (segment : Segment). length segment.bytes) longest segments (λ k d below. omega (arith, short k d below))

times_sum : (x y : ℕ) → (x + y) * longest ≡ x * longest + y * longest
times_sum x y = omega arith

bytes_all : (ts : Trackers) → AllSmall ts → held_bytes ts ≤ held_count ts * longest
bytes_all [] small = omega arith
bytes_all (t ∷ ts) small =
    let first = bytes_small t.1.segments (All-head IsSmall t.1 (values_of ts) small).1 in
    let rest = bytes_all ts (All-tail IsSmall t.1 (values_of ts) small) in
    let count = ap (λ (n : ℕ). n * longest) (held_count-cons t ts) ∙ times_sum (length t.1.segments) (held_count ts) in
    omega (arith, sum_by-cons tracker_bytes t.1 (values_of ts), first, rest, count)

pub bytes_few : (most : ℕ) (fragments : List Fragment) → 0 < most → held_bytes (state_after most fragments).trackers ≤ most * longest
bytes_few most fragments some =
    let is = held most fragments some in
    omega (arith, is.few, bytes_all (state_after most fragments).trackers is.small)

ends_within : (place : ℕ) (segments : List Segment) → place ≤ longest → All IsShort segments → covered_end place segments ≤ longest
unfolding covered_end
ends_within place [] low short = low
ends_within place (segment ∷ segments) low short =
    let first = All-head IsShort segment segments short in
    ends_within (max place (segment.start + length segment.bytes)) segments (omega (arith, low, first)) (All-tail IsShort segment segments short)

pub places_few : (most : ℕ) (fragments : List Fragment) → 0 < most → All (λ (t : TrackerState). covered_end 0 t.segments ≤ longest) (values_of (state_after most fragments).trackers)
places_few most fragments some = λ k t below. ends_within 0 (get_or (values_of (state_after most fragments).trackers) k t).segments (omega arith) ((held most fragments some).small k t below).1
