-- Where there is room for all fragments, a datagram is made of its own fragments alone, and so by a part of a capture as
-- by the whole.
use Rattle.std.proofs.Common.{◌≡◌, ℕ, suc, ◌+◌, ◌*◌, ◌<◌, ◌≤◌, Bool, true, false, cond, List, [], ◌∷◌, ◌++◌, length, Option, Some}
use Rattle.std.proofs.Common.{None, Result, Ok, Err, fold, unwrap_or, nat_lt, refl, sym, ap, subst, ◌∙◌, inl, append-nil}
use Rattle.std.proofs.Common.{length-append, arith}
use Rattle.std.specs.Prelude.{IfSome, option_and_then}
use Rattle.std.specs.List.{cons_option, filter, filter_map}
use Rattle.std.specs.Map.{lookup, remove_entry}
use Rattle.std.specs.Option.{option_map, option_map_or}
use Rattle.std.proofs.lemmas.Bool.{false≢true}
use Rattle.std.proofs.lemmas.Bool.Decides.{nat_tests}
use Rattle.std.proofs.lemmas.List.Elements.{filter_map-append}
use Rattle.std.proofs.lemmas.List.Sums.{fold_push}
use Rattle.std.proofs.lemmas.Map.{lookup-remove_entry}
use Rattle.edge_io.specs.declared.moment.Moment.{Moment}
use Rattle.packet_decode.specs.declared.packet.IpHead.{IpHead}
use Rattle.packet_decode.specs.declared.skip.Skip.{Skip}
use Rattle.packet_decode.specs.Decoding.{Fields}
use Rattle.conf_types.specs.declared.config.FragConfig.{FragConfig}
use Rattle.frag3_core.specs.declared.answer.Datagram.{Datagram}
use Rattle.frag3_core.specs.declared.answer.Ignored.{Ignored}
use Rattle.frag3_core.specs.declared.answer.Taken.{Taken}
use Rattle.frag3_core.specs.declared.answer.Taken.TheVariants as answer
use Rattle.frag3_core.specs.declared.key.DatagramKey.{DatagramKey}
use Rattle.frag3_core.specs.Sound.{AreTrackers}
use Rattle.frag3_core.specs.Trackers.{Frag3State, Fragment, TrackerState, Trackers, after, answer_of, begun, datagram_of, found}
use Rattle.frag3_core.specs.Trackers.{held_count, ignored, in_time, is_timed_out, joined, key_of, others, own, same_key}
use Rattle.frag3_core.specs.Trackers.{state_after, taken, tracker_of, trackers_after, with_own, with_room, without}
use Rattle.frag3_core.proofs.Entries.{AreTrackers-nil, AreTrackers-push, AreTrackers-remove, frags_of, held_count-push, held_count-remove, lookup-removed}
use Rattle.frag3_core.proofs.Keys.{one_key, same_key-equivalence, same_key-refl, same_key-true}
use Rattle.frag3_core.proofs.Laws.{state_after-push}
use Rattle.record_jobs.specs.Counts.{fragments_read}
use Rattle.record_jobs.specs.Packets.{completed_datagram, datagram_in, datagram_of_fragment, frag3_after, fragment_fields, fragment_in, fragment_of, fragments, is_fragment, said_by}
use Rattle.record_jobs.specs.Way.{LinkedRecord, Way}
use Rattle.record_jobs.specs.Splitting.{IsByPair, Part}
use Rattle.record_jobs.proofs.Splits.Jobs.{along_all}
use Rattle.record_jobs.proofs.Splits.Parts.{filter-kept, filter-left}

-- ---- one tracker, by its own fragments

abbrev in_time_own : Fragment → Option TrackerState → Option TrackerState
in_time_own f t = cond (option_map_or (is_timed_out f.moment) t false) None t

abbrev joined_own : Fragment → Option TrackerState → TrackerState
joined_own f t = joined f.ip f.part (unwrap_or (in_time_own f t) (begun f.moment f.rules))

abbrev left_own : TrackerState → Option (List ℕ) → Option TrackerState
left_own t None = Some t
left_own t (Some bytes) = None

abbrev own_after : Fragment → Option TrackerState → Option TrackerState
own_after f t = option_map_or (λ _. t) (ignored f.ip f.part f.rules) (left_own (joined_own f t) (datagram_of (joined_own f t)))

abbrev step_own : DatagramKey → Option TrackerState → Fragment → Option TrackerState
step_own key t f = cond (same_key (key_of f.ip) key) (own_after f t) t

abbrev tracker_after : DatagramKey → List Fragment → Option TrackerState
tracker_after key fs = fold (step_own key) None fs

-- ---- entries

lookup-push : (test : DatagramKey → Bool) (ts : Trackers) (key : DatagramKey) (t : TrackerState) → lookup test ts ≡ None → test key ≡ true → lookup test (ts ++ (key, t) ∷ []) ≡ Some t
lookup-push test [] key t none is = rw is refl
lookup-push test (e ∷ ts) key t none is = by_first (test e.0) none (lookup-push test ts key t)
  where
    by_first : (b : Bool)
        → cond b (Some e.1) (lookup test ts) ≡ None
        → (lookup test ts ≡ None → test key ≡ true → lookup test (ts ++ (key, t) ∷ []) ≡ Some t)
        → cond b (Some e.1) (lookup test (ts ++ (key, t) ∷ [])) ≡ Some t
    by_first true none rest = absurd cc
    by_first false none rest = rest none is

lookup-past : (test : DatagramKey → Bool) (ts : Trackers) (key : DatagramKey) (t : TrackerState) → test key ≡ false → lookup test (ts ++ (key, t) ∷ []) ≡ lookup test ts
lookup-past test [] key t isnt = rw isnt refl
lookup-past test (e ∷ ts) key t isnt = ap (λ (o : Option TrackerState). cond (test e.0) (Some e.1) o) (lookup-past test ts key t isnt)

flips : (a b : DatagramKey) → same_key a b ≡ false → same_key b a ≡ false
flips a b isnt = by_other (same_key b a) refl
  where
    by_other : (c : Bool) → same_key b a ≡ c → c ≡ false
    by_other true is = absurd (false≢true (sym isnt ∙ ap (same_key a) (same_key-true b a is) ∙ same_key-refl a))
    by_other false is = refl

with_room-fits : (most : ℕ) (ts : Trackers) → held_count ts < most → with_room most ts ≡ ts
with_room-fits most [] fits = refl
with_room-fits most (t ∷ ts) fits =
    let test : nat_lt (held_count (t ∷ ts)) most ≡ true = grind (arith, nat_tests, fits) in
    ap (λ b. cond b (t ∷ ts) (with_room most ts)) test

-- ---- one fragment
module _ (frag3 : Frag3State) (f : Fragment) (are : AreTrackers frag3.trackers) (room : held_count frag3.trackers < frag3.max_frags) where
  abbrev key : DatagramKey
  key = key_of f.ip

  abbrev ts : Trackers
  ts = frag3.trackers

  abbrev late : Bool
  late = option_map_or (is_timed_out f.moment) (tracker_of key ts) false

  kept-are : (b : Bool) → AreTrackers (cond b (without key ts) ts)
  kept-are true = AreTrackers-remove key ts are
  kept-are false = are

  kept-few : (b : Bool) → held_count (cond b (without key ts) ts) ≤ held_count ts
  kept-few true = let parts = held_count-remove key ts in omega (arith, parts)
  kept-few false = omega arith

  kept-own : (b : Bool) → tracker_of key (cond b (without key ts) ts) ≡ cond b None (tracker_of key ts)
  kept-own true = lookup-removed key ts are
  kept-own false = refl

  kept-other : (q : DatagramKey) → same_key key q ≡ false → (b : Bool) → tracker_of q (cond b (without key ts) ts) ≡ tracker_of q ts
  kept-other q apart true =
      lookup-remove_entry same_key-equivalence (same_key key) (one_key key) q ts are.apart ∙ ap (λ (b : Bool). cond b None (tracker_of q ts)) apart
  kept-other q apart false = refl

  found-kept : found frag3 f ≡ in_time f ts
  found-kept = with_room-fits frag3.max_frags (in_time f ts) (let few = kept-few late in omega (arith, few, room))

  own-joined : own frag3 f ≡ joined_own f (tracker_of key ts)
  own-joined =
      ap (λ (finds : Trackers). joined f.ip f.part (unwrap_or (tracker_of key finds) (begun f.moment f.rules))) found-kept
      ∙ ap (λ (o : Option TrackerState). joined f.ip f.part (unwrap_or o (begun f.moment f.rules))) (kept-own late)

  found-are : AreTrackers (found frag3 f)
  found-are = subst AreTrackers (sym found-kept) (kept-are late)

  pub taken-own : taken frag3 f ≡ option_map_or answer.Ignored (ignored f.ip f.part f.rules) (answer_of f.ip (datagram_of (joined_own f (tracker_of key ts))))
  unfolding taken
  taken-own = ap (λ (t : TrackerState). option_map_or answer.Ignored (ignored f.ip f.part f.rules) (answer_of f.ip (datagram_of t))) own-joined

  -- the trackers after a fragment
  pub record IsAfter (new : Frag3State) : Type 0 where
    pub max : new.max_frags ≡ frag3.max_frags
    pub few : held_count new.trackers ≤ held_count ts + 1
    pub sound : AreTrackers new.trackers
    pub each : (q : DatagramKey) → tracker_of q new.trackers ≡ step_own q (tracker_of q ts) f

  others-none : lookup (same_key key) (others frag3 f) ≡ None
  others-none = lookup-removed key (found frag3 f) found-are

  others-other : (q : DatagramKey) → same_key key q ≡ false → tracker_of q (others frag3 f) ≡ tracker_of q ts
  others-other q apart =
      lookup-remove_entry same_key-equivalence (same_key key) (one_key key) q (found frag3 f) found-are.apart
      ∙ ap (λ (b : Bool). cond b None (tracker_of q (found frag3 f))) apart
      ∙ ap (tracker_of q) found-kept
      ∙ kept-other q apart late

  own-size : length (own frag3 f).segments ≡ unwrap_or (option_map frags_of (tracker_of key (found frag3 f))) 0 + 1
  own-size = by_found (tracker_of key (found frag3 f))
    where
      by_found : (o : Option TrackerState) → length (joined f.ip f.part (unwrap_or o (begun f.moment f.rules))).segments ≡ unwrap_or (option_map frags_of o) 0 + 1
      by_found None = refl
      by_found (Some t) = omega (arith, length-append t.segments (record { start = 8 * f.ip.offset; bytes = f.part } ∷ []))

  others-few : held_count (others frag3 f) + unwrap_or (option_map frags_of (tracker_of key (found frag3 f))) 0 ≤ held_count ts
  others-few =
      let parts = held_count-remove key (found frag3 f) in
      let same = ap held_count found-kept in
      let few = kept-few late in
      omega (arith, parts, same, few)

  following-taken : (bytes : Option (List ℕ)) → datagram_of (own frag3 f) ≡ bytes → ignored f.ip f.part f.rules ≡ None
      → IsAfter (record frag3 { trackers = with_own key (own frag3 f) (others frag3 f) bytes })
  following-taken None is taken_up =
      record {
        max = refl;
        few = let push = held_count-push (others frag3 f) key (own frag3 f) in let size = own-size in let few = others-few in omega (arith, push, size, few);
        sound = AreTrackers-push (others frag3 f) key (own frag3 f) (AreTrackers-remove key (found frag3 f) found-are) others-none (let size = own-size in omega (arith, size));
        each = each;
      }
    where
      each : (q : DatagramKey) → tracker_of q (others frag3 f ++ (key, own frag3 f) ∷ []) ≡ step_own q (tracker_of q ts) f
      each q = by_key (same_key key q) refl
        where
          by_key : (b : Bool) → same_key key q ≡ b → tracker_of q (others frag3 f ++ (key, own frag3 f) ∷ []) ≡ cond b (own_after f (tracker_of q ts)) (tracker_of q ts)
          by_key true same =
              let is_key : key ≡ q = same_key-true key q same in
              subst (λ (k : DatagramKey). tracker_of k (others frag3 f ++ (key, own frag3 f) ∷ []) ≡ own_after f (tracker_of k ts)) is_key
              (lookup-push (same_key key) (others frag3 f) key (own frag3 f) others-none (same_key-refl key)
              ∙ ap Some own-joined
              ∙ sym (ap (λ (o : Option Ignored). option_map_or (λ _. tracker_of key ts) o (left_own (joined_own f (tracker_of key ts)) (datagram_of (joined_own f (tracker_of key ts))))) taken_up
              ∙ ap (left_own (joined_own f (tracker_of key ts))) (ap datagram_of (sym own-joined) ∙ is)))
          by_key false apart = lookup-past (same_key q) (others frag3 f) key (own frag3 f) (flips key q apart) ∙ others-other q apart
  following-taken (Some bytes) is taken_up =
      record {
        max = refl;
        few = let few = others-few in omega (arith, few);
        sound = AreTrackers-remove key (found frag3 f) found-are;
        each = each;
      }
    where
      each : (q : DatagramKey) → tracker_of q (others frag3 f) ≡ step_own q (tracker_of q ts) f
      each q = by_key (same_key key q) refl
        where
          by_key : (b : Bool) → same_key key q ≡ b → tracker_of q (others frag3 f) ≡ cond b (own_after f (tracker_of q ts)) (tracker_of q ts)
          by_key true same =
              let is_key : key ≡ q = same_key-true key q same in
              subst (λ (k : DatagramKey). tracker_of k (others frag3 f) ≡ own_after f (tracker_of k ts)) is_key
              (others-none
              ∙ sym (ap (λ (o : Option Ignored). option_map_or (λ _. tracker_of key ts) o (left_own (joined_own f (tracker_of key ts)) (datagram_of (joined_own f (tracker_of key ts))))) taken_up
              ∙ ap (left_own (joined_own f (tracker_of key ts))) (ap datagram_of (sym own-joined) ∙ is)))
          by_key false apart = others-other q apart

  pub IsAfter-after : IsAfter (after frag3 f)
  unfolding after
  IsAfter-after = by_reason (ignored f.ip f.part f.rules) refl
    where
      by_reason : (o : Option Ignored) → ignored f.ip f.part f.rules ≡ o → IsAfter (option_map_or (λ _. frag3) o (record frag3 { trackers = trackers_after frag3 f }))
      by_reason None is = following-taken (datagram_of (own frag3 f)) refl is
      by_reason (Some why) is =
          record {
            max = refl;
            few = omega arith;
            sound = are;
            each = λ q. sym (by_key (same_key key q) (tracker_of q ts));
          }
        where
          by_key : (b : Bool) (t : Option TrackerState) → cond b (own_after f t) t ≡ t
          by_key true t = ap (λ (o : Option Ignored). option_map_or (λ _. t) o (left_own (joined_own f t) (datagram_of (joined_own f t)))) is
          by_key false t = refl

-- ---- all fragments

record HasTrackers (most : ℕ) (fs : List Fragment) : Type 0 where
  max : (state_after most fs).max_frags ≡ most
  few : held_count (state_after most fs).trackers ≤ length fs
  are : AreTrackers (state_after most fs).trackers
  each : (key : DatagramKey) → tracker_of key (state_after most fs).trackers ≡ tracker_after key fs

holds-none : (most : ℕ) → HasTrackers most []
unfolding state_after
holds-none most = record { max = refl; few = omega arith; are = AreTrackers-nil; each = λ key. refl }

holds-more : (most : ℕ) (fs : List Fragment) (f : Fragment) → length fs < most → HasTrackers most fs → HasTrackers most (fs ++ f ∷ [])
holds-more most fs f short holds =
    let old : Frag3State = state_after most fs in
    let few = holds.few in
    let max = holds.max in
    let following = IsAfter-after old f holds.are (omega (arith, few, max, short)) in
    let pushed : state_after most (fs ++ f ∷ []) ≡ after old f = state_after-push most fs f in
    let size = ap (λ (s : Frag3State). held_count s.trackers) pushed in
    let more = following.few in
    record {
      max = ap (λ (s : Frag3State). s.max_frags) pushed ∙ following.max ∙ holds.max;
      few = omega (arith, size, more, few, length-append fs (f ∷ []));
      are = subst (λ (s : Frag3State). AreTrackers s.trackers) (sym pushed) following.sound;
      each = λ key.
          ap (λ (s : Frag3State). tracker_of key s.trackers) pushed ∙ following.each key
          ∙ ap (λ (t : Option TrackerState). step_own key t f) (holds.each key)
          ∙ sym (fold_push (step_own key) None fs f);
    }

holds : (most : ℕ) (fs : List Fragment) → length fs ≤ most → HasTrackers most fs
holds most fs short = along_all (HasTrackers most) fs (holds-none most) step fs [] (append-nil fs)
  where
    step : (before : List Fragment) (f : Fragment) (rest : List Fragment) → before ++ f ∷ rest ≡ fs → HasTrackers most before → HasTrackers most (before ++ f ∷ [])
    step before f rest are so_far = holds-more most before f (let size = ap length are in omega (arith, size, short, length-append before (f ∷ rest))) so_far

-- what a fragment makes whole goes by its own datagram's fragments
taken-alike : (most : ℕ) (fs gs : List Fragment) (f : Fragment) → length fs < most → length gs < most → tracker_after (key_of f.ip) fs ≡ tracker_after (key_of f.ip) gs
    → taken (state_after most fs) f ≡ taken (state_after most gs) f
taken-alike most fs gs f short short_too same =
    let here = holds most fs (omega (arith, short)) in
    let there = holds most gs (omega (arith, short_too)) in
    let few = here.few in
    let max = here.max in
    let few_too = there.few in
    let max_too = there.max in
    taken-own (state_after most fs) f here.are (omega (arith, few, max, short))
    ∙ ap (λ (t : Option TrackerState). option_map_or answer.Ignored (ignored f.ip f.part f.rules)
    (answer_of f.ip (datagram_of (joined_own f t)))) (here.each (key_of f.ip) ∙ same ∙ sym (there.each (key_of f.ip)))
    ∙ sym (taken-own (state_after most gs) f there.are (omega (arith, few_too, max_too, short_too)))

-- ---- the fragments of records
module _ (way : Way) (config : FragConfig) where
  abbrev frags : List LinkedRecord → List Fragment
  frags records = fragments way config records

  frags-more : (before : List LinkedRecord) (r : LinkedRecord) (rest : List LinkedRecord) → frags (before ++ r ∷ rest) ≡ frags before ++ cons_option (fragment_in way config r) (frags rest)
  frags-more before r rest = filter_map-append (fragment_in way config) before (r ∷ rest)

  frags-read : (records : List LinkedRecord) → length (frags records) ≡ length (fragments_read way records)
  frags-read [] = refl
  frags-read (r ∷ records) = by_fields (fragment_fields (said_by way r)) (frags-read records)
    where
      by_fields : (o : Option Fields) → length (frags records) ≡ length (fragments_read way records)
          → length (cons_option (option_map (fragment_of way config r.captured.moment) o) (frags records)) ≡ length (cons_option o (fragments_read way records))
      by_fields None same = same
      by_fields (Some fields) same = ap suc same

  frags-fewer : (part : Part) (records : List LinkedRecord) → length (frags (filter part records)) ≤ length (frags records)
  frags-fewer part [] = omega arith
  frags-fewer part (r ∷ records) = by_part (part r) (fragment_in way config r) (frags-fewer part records)
    where
      own : LinkedRecord → Option Fragment
      own = fragment_in way config

      grows : (o : Option Fragment) (fs : List Fragment) → length fs ≤ length (cons_option o fs)
      grows None fs = omega arith
      grows (Some f) fs = omega arith

      both : (o : Option Fragment) (fs gs : List Fragment) → length fs ≤ length gs → length (cons_option o fs) ≤ length (cons_option o gs)
      both None fs gs less = less
      both (Some f) fs gs less = omega (arith, less)

      by_part : (b : Bool) (o : Option Fragment) → length (frags (filter part records)) ≤ length (frags records)
          → length (frags (cond b (r ∷ filter part records) (filter part records))) ≤ length (cons_option (fragment_in way config r) (frags records))
      by_part true o less = both (fragment_in way config r) (frags (filter part records)) (frags records) less
      by_part false o less = let more = grows (fragment_in way config r) (frags records) in omega (arith, less, more)

-- ---- a part

some_same : {A : Type 0} (x y : A) → Some x ≡ Some y → x ≡ y
some_same x y is = cc

module _ (way : Way) (part : Part) (records : List LinkedRecord) (by_pair : IsByPair way part) where
  module _ (config : FragConfig) (few : length (fragments_read way records) ≤ config.max_frags)
      (before : List LinkedRecord) (r : LinkedRecord) (rest : List LinkedRecord) (are : before ++ r ∷ rest ≡ records) (of : part r ≡ true)
      (fields : Fields) (said : said_by way r ≡ Ok fields) where
    abbrev own_key : DatagramKey
    own_key = key_of fields.ip

    fields-of : (s : LinkedRecord) (f : Fragment) → fragment_in way config s ≡ Some f → (more : Fields) × (said_by way s ≡ Ok more) × (f.ip ≡ more.ip)
    fields-of s f is = by_said (said_by way s) refl is
      where
        by_said : (o : Result Fields Skip)
            → said_by way s ≡ o
            → option_map (fragment_of way config s.captured.moment) (fragment_fields o) ≡ Some f
            → (more : Fields) × (said_by way s ≡ Ok more) × (f.ip ≡ more.ip)
        by_said (Err why) told is = absurd cc
        by_said (Ok more) told is = by_fragment (is_fragment more.body) is
          where
            by_fragment : (b : Bool) → option_map (fragment_of way config s.captured.moment) (cond b (Some more) None) ≡ Some f → (more : Fields) × (said_by way s ≡ Ok more) × (f.ip ≡ more.ip)
            by_fragment true is = (more, told, ap (λ (g : Fragment). g.ip) (sym (some_same (fragment_of way config s.captured.moment more) f is)))
            by_fragment false is = absurd cc

    -- a fragment of another part is of another datagram
    apart : (s : LinkedRecord) (f : Fragment) → fragment_in way config s ≡ Some f → part s ≡ false → same_key (key_of f.ip) own_key ≡ false
    apart s f is isnt = by_key (same_key (key_of f.ip) own_key) refl
      where
        by_key : (b : Bool) → same_key (key_of f.ip) own_key ≡ b → b ≡ false
        by_key false differs = refl
        by_key true same =
            let one : key_of f.ip ≡ own_key = same_key-true (key_of f.ip) own_key same in
            let more = fields-of s f is in
            let src : fields.ip.src ≡ more.0.ip.src = ap (λ (k : DatagramKey). k.src) (sym one) ∙ ap (λ (i : IpHead). i.src) more.2 in
            let dst : fields.ip.dst ≡ more.0.ip.dst = ap (λ (k : DatagramKey). k.dst) (sym one) ∙ ap (λ (i : IpHead). i.dst) more.2 in
            absurd (false≢true (sym isnt ∙ sym (by_pair r s fields more.0 said more.1 (inl (src, dst))) ∙ of))

    same-tracker : tracker_after own_key (frags way config (filter part before)) ≡ tracker_after own_key (frags way config before)
    same-tracker = along_all Same records refl step before (r ∷ rest) are
      where
        Same : List LinkedRecord → Type 0
        Same earlier = tracker_after own_key (frags way config (filter part earlier)) ≡ tracker_after own_key (frags way config earlier)

        following : Option Fragment → Option TrackerState → Option TrackerState
        following None t = t
        following (Some f) t = step_own own_key t f

        pushed : (earlier : List LinkedRecord) (s : LinkedRecord) (o : Option Fragment) → fragment_in way config s ≡ o
            → tracker_after own_key (frags way config (earlier ++ s ∷ [])) ≡ following o (tracker_after own_key (frags way config earlier))
        pushed earlier s None is =
            ap (tracker_after own_key) (frags-more way config earlier s [] ∙ ap (λ (o : Option Fragment). frags way config earlier ++ cons_option o []) is ∙ append-nil (frags way config earlier))
        pushed earlier s (Some f) is =
            ap (tracker_after own_key) (frags-more way config earlier s [] ∙ ap (λ (o : Option Fragment). frags way config earlier ++ cons_option o []) is)
            ∙ fold_push (step_own own_key) None (frags way config earlier) f

        passed : (s : LinkedRecord) (o : Option Fragment) → fragment_in way config s ≡ o → part s ≡ false → (t : Option TrackerState) → following o t ≡ t
        passed s None is isnt t = refl
        passed s (Some f) is isnt t = ap (λ (b : Bool). cond b (own_after f t) t) (apart s f is isnt)

        step : (earlier : List LinkedRecord) (s : LinkedRecord) (more : List LinkedRecord) → earlier ++ s ∷ more ≡ records → Same earlier → Same (earlier ++ s ∷ [])
        step earlier s more here same = by_part (part s) refl
          where
            by_part : (b : Bool) → part s ≡ b → Same (earlier ++ s ∷ [])
            by_part true is =
                ap (λ (rs : List LinkedRecord). tracker_after own_key (frags way config rs)) (filter-kept part earlier s [] is)
                ∙ pushed (filter part earlier) s (fragment_in way config s) refl
                ∙ ap (following (fragment_in way config s)) same
                ∙ sym (pushed earlier s (fragment_in way config s) refl)
            by_part false isnt =
                ap (λ (rs : List LinkedRecord). tracker_after own_key (frags way config rs)) (filter-left part earlier s isnt)
                ∙ same
                ∙ sym (pushed earlier s (fragment_in way config s) refl ∙ passed s (fragment_in way config s) refl isnt (tracker_after own_key (frags way config earlier)))

    fewer-than-most : (read : fragment_fields (said_by way r) ≡ Some fields) → length (frags way config before) < config.max_frags
    fewer-than-most read =
        let own : fragment_in way config r ≡ Some (fragment_of way config r.captured.moment fields) = ap (option_map (fragment_of way config r.captured.moment)) read in
        let whole : frags way config records ≡ frags way config before ++ (fragment_of way config r.captured.moment fields ∷ frags way config rest) =
        ap (frags way config) (sym are) ∙ frags-more way config before r rest ∙ ap (λ (o : Option Fragment). frags way config before ++ cons_option o (frags way config rest)) own in
        let size = ap length whole in
        let all = frags-read way config records in
        omega (arith, size, all, few, length-append (frags way config before) (fragment_of way config r.captured.moment fields ∷ frags way config rest))

    same-taken : (read : fragment_fields (said_by way r) ≡ Some fields)
        → taken (state_after config.max_frags (frags way config (filter part before))) (fragment_of way config r.captured.moment fields)
        ≡ taken (state_after config.max_frags (frags way config before)) (fragment_of way config r.captured.moment fields)
    same-taken read =
        let short = fewer-than-most read in
        let less = frags-fewer way config part before in
        taken-alike config.max_frags (frags way config (filter part before)) (frags way config before) (fragment_of way config r.captured.moment fields) (omega (arith, short, less)) short same-tracker

  -- a record of the part completes the datagram that it completes in the whole
  pub same-datagram : IfSome way.frag (λ (config : FragConfig). length (fragments_read way records) ≤ config.max_frags)
      → (before : List LinkedRecord) (r : LinkedRecord) (rest : List LinkedRecord) → before ++ r ∷ rest ≡ records → part r ≡ true
      → datagram_in way (filter part before) r ≡ datagram_in way before r
  unfolding datagram_in datagram_of_fragment frag3_after
  same-datagram few before r rest are of = by_said (said_by way r) refl
    where
      moment : Moment
      moment = r.captured.moment

      waiting : List LinkedRecord → Option Frag3State
      waiting rs = option_map (λ (config : FragConfig). state_after config.max_frags (fragments way config rs)) way.frag

      made : Option FragConfig → List LinkedRecord → Fields → Option Datagram
      made frag rs fields =
          option_and_then (λ (config : FragConfig). option_and_then (λ (frag3 : Frag3State). completed_datagram (taken frag3 (fragment_of way config r.captured.moment fields)))
          (option_map (λ (config : FragConfig). state_after config.max_frags (fragments way config rs)) frag)) frag

      by_config : (fields : Fields) → said_by way r ≡ Ok fields → fragment_fields (said_by way r) ≡ Some fields → (frag : Option FragConfig)
          → IfSome frag (λ (config : FragConfig). length (fragments_read way records) ≤ config.max_frags) → made frag (filter part before) fields ≡ made frag before fields
      by_config fields said read None few = refl
      by_config fields said read (Some config) few = ap completed_datagram (same-taken config few before r rest are of fields said read)

      by_fields : (fields : Fields) → said_by way r ≡ Ok fields → (o : Option Fields) → fragment_fields (said_by way r) ≡ o → ((some : Fields) → o ≡ Some some → some ≡ fields)
          → option_and_then (made way.frag (filter part before)) o ≡ option_and_then (made way.frag before) o
      by_fields fields said None read own = refl
      by_fields fields said (Some some) read own =
          let same = own some refl in
          by_config some (said ∙ ap Ok (sym same)) read way.frag few

      by_said : (said : Result Fields Skip)
          → said_by way r ≡ said
          → option_and_then (made way.frag (filter part before)) (fragment_fields (said_by way r)) ≡
          option_and_then (made way.frag before) (fragment_fields (said_by way r))
      by_said (Err why) told =
          ap (λ (o : Result Fields Skip). option_and_then (made way.frag (filter part before)) (fragment_fields o)) told
          ∙ sym (ap (λ (o : Result Fields Skip). option_and_then (made way.frag before) (fragment_fields o)) told)
      by_said (Ok fields) told = by_fields fields told (fragment_fields (said_by way r)) refl (λ some is. own some (sym is ∙ ap fragment_fields told))
        where
          own : (some : Fields) → Some some ≡ fragment_fields (Ok fields) → some ≡ fields
          own some is = by_fragment (is_fragment fields.body) is
            where
              by_fragment : (b : Bool) → Some some ≡ cond b (Some fields) None → some ≡ fields
              by_fragment true is = some_same some fields is
              by_fragment false is = absurd cc
