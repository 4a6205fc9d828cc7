-- A part of a capture has no more flows than the whole.
use Rattle.std.proofs.Common.{◌≡◌, ◌+◌, ◌≤◌, ◌||◌, Bool, true, false, cond, List, [], ◌∷◌, ◌++◌, length, Option, Some, None, refl, sym, ap, subst, ◌∙◌, append-nil, arith}
use Rattle.std.specs.Prelude.{option_and_then}
use Rattle.std.specs.List.{filter}
use Rattle.std.specs.Option.{option_to_list}
use Rattle.std.proofs.lemmas.Bool.{false≢true}
use Rattle.stream5_sessions.specs.declared.key.Key.{Key}
use Rattle.stream5_sessions.specs.Keys.{is_of, same_key}
use Rattle.stream5_sessions.specs.Liveness.{distinct_count, is_touched}
use Rattle.stream5_sessions.proofs.Liveness.Apart.{Apart, Apart-recent}
use Rattle.stream5_sessions.proofs.KeyLaws.{same_key-is, same_key-self}
use Rattle.stream5_sessions.proofs.Liveness.Recent.{is_touched-recent, is_touched-remove_key, length-recent, length-remove_key, recent, remove_key}
use Rattle.record_jobs.specs.declared.item.RecordItem.{RecordItem}
use Rattle.record_jobs.specs.Packets.{packet_in}
use Rattle.record_jobs.specs.Touches.{item_key, key_in, touches}
use Rattle.record_jobs.specs.Way.{LinkedRecord, Way}
use Rattle.record_jobs.proofs.Growth.{touches-push}
use Rattle.record_jobs.specs.Splitting.{HasRoom, Part}
use Rattle.record_jobs.proofs.Splits.Jobs.{along_all}
use Rattle.record_jobs.proofs.Splits.Parts.{filter-kept, filter-left}

-- all of these keys are among those
abbrev AreAmong : List Key → List Key → Type 0
AreAmong keys others = (key : Key) → is_touched keys key ≡ true → is_touched others key ≡ true

first-touched : (key : Key) (keys : List Key) → is_touched (key ∷ keys) key ≡ true
first-touched key keys = ap (λ (b : Bool). b || is_touched keys key) (same_key-self key)

later-touched : (key other : Key) (keys : List Key) → is_touched keys other ≡ true → is_touched (key ∷ keys) other ≡ true
later-touched key other keys is = ap (λ (b : Bool). same_key other key || b) is ∙ or_true (same_key other key)
  where
    or_true : (b : Bool) → (b || true) ≡ true
    or_true true = refl
    or_true false = refl

-- different keys that are all among others are no more than these
few-among : (keys others : List Key) → Apart keys → AreAmong keys others → length keys ≤ length others
few-among [] others apart among = omega arith
few-among (key ∷ keys) others apart among =
    let there = among key (first-touched key keys) in
    let parts : length (remove_key key others) + cond (is_touched others key) 1 0 ≡ length others = length-remove_key key others in
    let size : length (remove_key key others) + 1 ≡ length others = ap (λ (b : Bool). length (remove_key key others) + cond b 1 0) (sym there) ∙ parts in
    let rest = few-among keys (remove_key key others) apart.1 left in
    omega (arith, size, rest)
  where
    left : AreAmong keys (remove_key key others)
    left other is = is_touched-remove_key key other (differs (same_key other key) refl) others ∙ among other (later-touched key other keys is)
      where
        differs : (b : Bool) → same_key other key ≡ b → same_key other key ≡ false
        differs true same = absurd (false≢true (sym apart.0 ∙ ap (is_touched keys) (sym (same_key-is other key same)) ∙ is))
        differs false isnt = isnt

fewer-distinct : (keys others : List Key) → AreAmong keys others → distinct_count keys ≤ distinct_count others
fewer-distinct keys others among =
    let less = few-among (recent keys) (recent others) (Apart-recent keys) (λ key is. is_touched-recent others key ∙ among key (sym (is_touched-recent keys key) ∙ is)) in
    omega (arith, less, length-recent keys, length-recent others)

-- a key among those of one protocol is of that protocol, and among all keys
abbrev Passes : Bool → Key → List Key → Type 0
Passes tcp key keys = is_touched (filter (is_of tcp) keys) key ≡ true → (is_of tcp key ≡ true) × (is_touched keys key ≡ true)

filtered-touched : (tcp : Bool) (key : Key) (keys : List Key) → Passes tcp key keys
filtered-touched tcp key [] is = absurd (false≢true is)
filtered-touched tcp key (first ∷ keys) is = by_protocol (is_of tcp first) refl (filtered-touched tcp key keys) is
  where
    both : (b : Bool) → same_key key first ≡ b → is_of tcp first ≡ true → Passes tcp key keys → (b || is_touched (filter (is_of tcp) keys) key) ≡ true
        → (is_of tcp key ≡ true) × ((b || is_touched keys key) ≡ true)
    both true same own rest is = (ap (is_of tcp) (same_key-is key first same) ∙ own, refl)
    both false differs own rest is = rest is

    by_protocol : (b : Bool) → is_of tcp first ≡ b → Passes tcp key keys → is_touched (cond b (first ∷ filter (is_of tcp) keys) (filter (is_of tcp) keys)) key ≡ true
        → (is_of tcp key ≡ true) × (is_touched (first ∷ keys) key ≡ true)
    by_protocol true own rest is = both (same_key key first) refl own rest is
    by_protocol false own rest is = let more = rest is in (more.0, later-touched first key keys more.1)

touched-filtered : (tcp : Bool) (key : Key) (keys : List Key) → is_of tcp key ≡ true → is_touched keys key ≡ true → is_touched (filter (is_of tcp) keys) key ≡ true
touched-filtered tcp key [] own is = absurd (false≢true is)
touched-filtered tcp key (first ∷ keys) own is = by_key (same_key key first) refl is (touched-filtered tcp key keys own)
  where
    kept : (b : Bool) → is_of tcp first ≡ b → is_touched (filter (is_of tcp) keys) key ≡ true → is_touched (cond b (first ∷ filter (is_of tcp) keys) (filter (is_of tcp) keys)) key ≡ true
    kept true is there = later-touched first key (filter (is_of tcp) keys) there
    kept false is there = there

    by_key : (b : Bool) → same_key key first ≡ b → (b || is_touched keys key) ≡ true → (is_touched keys key ≡ true → is_touched (filter (is_of tcp) keys) key ≡ true)
        → is_touched (cond (is_of tcp first) (first ∷ filter (is_of tcp) keys) (filter (is_of tcp) keys)) key ≡ true
    by_key true same is rest =
        let own_first : is_of tcp first ≡ true = ap (is_of tcp) (sym (same_key-is key first same)) ∙ own in
        ap (λ (b : Bool). is_touched (cond b (first ∷ filter (is_of tcp) keys) (filter (is_of tcp) keys)) key) own_first
        ∙ ap (λ (b : Bool). b || is_touched (filter (is_of tcp) keys) key) same
    by_key false differs is rest = kept (is_of tcp first) refl (rest is)

fewer-of : (tcp : Bool) (keys others : List Key) → AreAmong keys others → distinct_count (filter (is_of tcp) keys) ≤ distinct_count (filter (is_of tcp) others)
fewer-of tcp keys others among =
    fewer-distinct (filter (is_of tcp) keys) (filter (is_of tcp) others)
    (λ key is. let own = filtered-touched tcp key keys is in touched-filtered tcp key others own.0 (among key own.1))

-- there is room for the flows of a part
module _ (way : Way) (part : Part) (records : List LinkedRecord)
    (packets : (before : List LinkedRecord) (r : LinkedRecord) (rest : List LinkedRecord) → before ++ r ∷ rest ≡ records → part r ≡ true
    → packet_in way (filter part before) r ≡ packet_in way before r) where
  all-among : AreAmong (touches way (filter part records)) (touches way records)
  unfolding key_in
  all-among = along_all Among records none step records [] (append-nil records)
    where
      Among : List LinkedRecord → Type 0
      Among before = AreAmong (touches way (filter part before)) (touches way before)

      none : Among []
      none key is = is

      pushed : (key : Option Key) (keys others : List Key) → AreAmong keys others → AreAmong (option_to_list key ++ keys) (option_to_list key ++ others)
      pushed None keys others among key is = among key is
      pushed (Some first) keys others among key is = by_key (same_key key first) is
        where
          by_key : (b : Bool) → (b || is_touched keys key) ≡ true → (b || is_touched others key) ≡ true
          by_key true is = refl
          by_key false is = among key is

      grown : (key : Option Key) (keys others : List Key) → AreAmong keys others → AreAmong keys (option_to_list key ++ others)
      grown None keys others among key is = among key is
      grown (Some first) keys others among key is = later-touched first key others (among key is)

      step : (before : List LinkedRecord) (r : LinkedRecord) (rest : List LinkedRecord) → before ++ r ∷ rest ≡ records → Among before → Among (before ++ r ∷ [])
      step before r rest are among = by_part (part r) refl
        where
          same-key : part r ≡ true → key_in way (filter part before) r ≡ key_in way before r
          same-key of = ap (λ (o : Option RecordItem). option_and_then (item_key way) o) (packets before r rest are of)

          by_part : (b : Bool) → part r ≡ b → AreAmong (touches way (filter part (before ++ r ∷ []))) (touches way (before ++ r ∷ []))
          by_part true of =
              let own : touches way (filter part (before ++ r ∷ [])) ≡ option_to_list (key_in way before r) ++ touches way (filter part before) =
              ap (touches way) (filter-kept part before r [] of) ∙ touches-push way (filter part before) r
              ∙ ap (λ (o : Option Key). option_to_list o ++ touches way (filter part before)) (same-key of) in
              subst (λ (keys : List Key). AreAmong keys (touches way (before ++ r ∷ []))) (sym own)
              (subst (AreAmong (option_to_list (key_in way before r) ++ touches way (filter part before))) (sym (touches-push way before r))
              (pushed (key_in way before r) (touches way (filter part before)) (touches way before) among))
          by_part false isnt =
              subst (λ (rs : List LinkedRecord). AreAmong (touches way rs) (touches way (before ++ r ∷ []))) (sym (filter-left part before r isnt))
              (subst (AreAmong (touches way (filter part before))) (sym (touches-push way before r))
              (grown (key_in way before r) (touches way (filter part before)) (touches way before) among))

  pub part-room : HasRoom way records → HasRoom way (filter part records)
  part-room room tcp =
      let less = fewer-of tcp (touches way (filter part records)) (touches way records) all-among in
      let few = room tcp in
      omega (arith, less, few)
