-- What one record more does to the counts.
use Rattle.std.proofs.Common.{◌≡◌, ℕ, ◌+◌, Bool, true, false, cond, not, List, [], ◌∷◌, ◌++◌, length, Option, Some, None, refl, sym, ap, ◌∙◌, length-append, arith}
use Rattle.std.specs.Prelude.{count_by, is_some}
use Rattle.std.specs.List.{filter_map}
use Rattle.std.specs.Option.{option_map, option_to_list}
use Rattle.std.proofs.lemmas.List.Elements.{filter_map-append}
use Rattle.std.proofs.lemmas.List.Sums.{sum_by-append}
use Rattle.packet_decode.specs.declared.skip.Skip.{Skip}
use Rattle.packet_decode.specs.declared.skip.Skip.TheVariants as skip
use Rattle.stream5_sessions.specs.declared.flows.Touch.{Touch}
use Rattle.stream5_sessions.specs.declared.key.Key.{Key}
use Rattle.stream5_sessions.specs.Liveness.{MaxFlows, begun, is_live, touch_found}
use Rattle.record_jobs.specs.declared.counts.RecordCounts.{RecordCounts}
use Rattle.record_jobs.specs.declared.content.RecordContent.{RecordContent}
use Rattle.record_jobs.specs.Fronts.{FrontState, IsFrontAfter}
use Rattle.record_jobs.specs.Counts.{counts, datagrams, fragments_read, is_checksum, is_malformed, is_other, is_short, skips}
use Rattle.record_jobs.specs.Packets.{datagram_in, fragment_fields, said_by, skip_in}
use Rattle.record_jobs.specs.Steps.{counts_after, is_fresh, one_if, with_skip}
use Rattle.record_jobs.specs.Touches.{key_in, most_flows, touch_in, touches}
use Rattle.record_jobs.specs.Way.{LinkedRecord, Way}
use Rattle.record_jobs.proofs.Growth.{touches-push, trail-push}

-- counts of these numbers
made : ℕ → ℕ → ℕ → ℕ → ℕ → ℕ → ℕ → ℕ → RecordCounts
made records short other checksum malformed fragments rebuilt flows = record {
  records = records;
  short = short;
  other = other;
  checksum = checksum;
  malformed = malformed;
  fragments = fragments;
  rebuilt = rebuilt;
  flows = flows;
}

-- counts with these numbers more
grown : RecordCounts → ℕ → ℕ → ℕ → ℕ → ℕ → ℕ → ℕ → RecordCounts
grown base short other checksum malformed fragments rebuilt flows =
    made (base.records + 1) (base.short + short) (base.other + other) (base.checksum + checksum) (base.malformed + malformed) (base.fragments + fragments) (base.rebuilt + rebuilt) (base.flows + flows)

-- how often a reason is counted for a record
one_for : (Skip → Bool) → Option Skip → ℕ
one_for is_reason o = count_by is_reason (option_to_list o)

-- the counts with one reason more, and with what else
content_grown : (base : RecordCounts) (o : Option Skip) (f b t : ℕ)
    → grown base (one_for is_short o) (one_for is_other o) (one_for is_checksum o) (one_for is_malformed o) f b t
    ≡ (let more : RecordCounts = with_skip base o in record more { records = more.records + 1; fragments = more.fragments + f; rebuilt = more.rebuilt + b; flows = more.flows + t })
unfolding made grown one_for
content_grown base None f b t =
    let zero : (n : ℕ) → n + 0 ≡ n = λ n. omega arith in
    ap (λ n. made (base.records + 1) n (base.other + 0) (base.checksum + 0) (base.malformed + 0) (base.fragments + f) (base.rebuilt + b) (base.flows + t)) (zero base.short)
    ∙ ap (λ n. made (base.records + 1) base.short n (base.checksum + 0) (base.malformed + 0) (base.fragments + f) (base.rebuilt + b) (base.flows + t)) (zero base.other)
    ∙ ap (λ n. made (base.records + 1) base.short base.other n (base.malformed + 0) (base.fragments + f) (base.rebuilt + b) (base.flows + t)) (zero base.checksum)
    ∙ ap (λ n. made (base.records + 1) base.short base.other base.checksum n (base.fragments + f) (base.rebuilt + b) (base.flows + t)) (zero base.malformed)
content_grown base (Some skip.Short) f b t =
    let zero : (n : ℕ) → n + 0 ≡ n = λ n. omega arith in
    ap (λ n. made (base.records + 1) (base.short + 1) n (base.checksum + 0) (base.malformed + 0) (base.fragments + f) (base.rebuilt + b) (base.flows + t)) (zero base.other)
    ∙ ap (λ n. made (base.records + 1) (base.short + 1) base.other n (base.malformed + 0) (base.fragments + f) (base.rebuilt + b) (base.flows + t)) (zero base.checksum)
    ∙ ap (λ n. made (base.records + 1) (base.short + 1) base.other base.checksum n (base.fragments + f) (base.rebuilt + b) (base.flows + t)) (zero base.malformed)
content_grown base (Some skip.OtherProtocol) f b t =
    let zero : (n : ℕ) → n + 0 ≡ n = λ n. omega arith in
    ap (λ n. made (base.records + 1) n (base.other + 1) (base.checksum + 0) (base.malformed + 0) (base.fragments + f) (base.rebuilt + b) (base.flows + t)) (zero base.short)
    ∙ ap (λ n. made (base.records + 1) base.short (base.other + 1) n (base.malformed + 0) (base.fragments + f) (base.rebuilt + b) (base.flows + t)) (zero base.checksum)
    ∙ ap (λ n. made (base.records + 1) base.short (base.other + 1) base.checksum n (base.fragments + f) (base.rebuilt + b) (base.flows + t)) (zero base.malformed)
content_grown base (Some skip.Checksum) f b t =
    let zero : (n : ℕ) → n + 0 ≡ n = λ n. omega arith in
    ap (λ n. made (base.records + 1) n (base.other + 0) (base.checksum + 1) (base.malformed + 0) (base.fragments + f) (base.rebuilt + b) (base.flows + t)) (zero base.short)
    ∙ ap (λ n. made (base.records + 1) base.short n (base.checksum + 1) (base.malformed + 0) (base.fragments + f) (base.rebuilt + b) (base.flows + t)) (zero base.other)
    ∙ ap (λ n. made (base.records + 1) base.short base.other (base.checksum + 1) n (base.fragments + f) (base.rebuilt + b) (base.flows + t)) (zero base.malformed)
content_grown base (Some skip.Malformed) f b t =
    let zero : (n : ℕ) → n + 0 ≡ n = λ n. omega arith in
    ap (λ n. made (base.records + 1) n (base.other + 0) (base.checksum + 0) (base.malformed + 1) (base.fragments + f) (base.rebuilt + b) (base.flows + t)) (zero base.short)
    ∙ ap (λ n. made (base.records + 1) base.short n (base.checksum + 0) (base.malformed + 1) (base.fragments + f) (base.rebuilt + b) (base.flows + t)) (zero base.other)
    ∙ ap (λ n. made (base.records + 1) base.short base.other n (base.malformed + 1) (base.fragments + f) (base.rebuilt + b) (base.flows + t)) (zero base.checksum)

same_made : (a b c d e f g h a' b' c' d' e' f' g' h' : ℕ) → a ≡ a' → b ≡ b' → c ≡ c' → d ≡ d' → e ≡ e' → f ≡ f' → g ≡ g' → h ≡ h' → made a b c d e f g h ≡ made a' b' c' d' e' f' g' h'
same_made a b c d e f g h a' b' c' d' e' f' g' h' p q r s t u v w = cc

-- the counts with one record more
counts_as : RecordCounts → Option Skip → Bool → Bool → Bool → RecordCounts
counts_as base o fragment rebuilt fresh =
    let more : RecordCounts = with_skip base o in
    record more { records = more.records + 1; fragments = more.fragments + one_if fragment; rebuilt = more.rebuilt + one_if rebuilt; flows = more.flows + one_if fresh }

counts_as-grown : (base : RecordCounts) (o : Option Skip) (f b t : Bool)
    → counts_as base o f b t ≡
    grown base (one_for is_short o) (one_for is_other o) (one_for is_checksum o) (one_for is_malformed o) (one_if f) (one_if b)
    (one_if t)
unfolding counts_as
counts_as-grown base o f b t = sym (content_grown base o (one_if f) (one_if b) (one_if t))

-- flows that begin
begun-option : (max : MaxFlows) (earlier : List Key) (key : Option Key) → begun max (option_to_list key ++ earlier) ≡ begun max earlier + one_if (is_fresh (option_map (touch_found max earlier) key))
begun-option max earlier None = let e : begun max earlier ≡ begun max earlier + 0 = omega arith in e
begun-option max earlier (Some key) = fresh (is_live max earlier key)
  where
    fresh : (b : Bool) → cond b (begun max earlier) (begun max earlier + 1) ≡ begun max earlier + cond (not b) 1 0
    fresh true = omega arith
    fresh false = refl

skips_more : (way : Way) (before : List LinkedRecord) (r : LinkedRecord) (is_reason : Skip → Bool)
    → count_by is_reason (skips way (before ++ r ∷ [])) ≡
    count_by is_reason (skips way before) + one_for is_reason (skip_in way before r)
unfolding one_for
skips_more way before r is_reason =
    ap (count_by is_reason) (trail-push (λ before r. option_to_list (skip_in way before r)) before r)
    ∙ sum_by-append (λ x. cond (is_reason x) 1 0) (skips way before) (option_to_list (skip_in way before r))

length-option : {X : Type 0} (o : Option X) → length (option_to_list o) ≡ one_if (is_some o)
length-option None = refl
length-option (Some x) = refl

filter_map-one : {X : Type 0} (h : LinkedRecord → Option X) (r : LinkedRecord) → length (filter_map h (r ∷ [])) ≡ one_if (is_some (h r))
filter_map-one h r = elim (h r) as (λ o. length (Rattle.std.specs.List.cons_option o []) ≡ one_if (is_some o)) [ None ↦ refl | Some x ↦ refl ]

fragments_more : (way : Way) (before : List LinkedRecord) (r : LinkedRecord)
    → length (fragments_read way (before ++ r ∷ [])) ≡
    length (fragments_read way before) + one_if (is_some (fragment_fields (said_by way r)))
fragments_more way before r =
    ap length (filter_map-append (λ r. fragment_fields (said_by way r)) before (r ∷ []))
    ∙ length-append (fragments_read way before) (filter_map (λ r. fragment_fields (said_by way r)) (r ∷ []))
    ∙ ap (λ n. length (fragments_read way before) + n) (filter_map-one (λ r. fragment_fields (said_by way r)) r)

datagrams_more : (way : Way) (before : List LinkedRecord) (r : LinkedRecord) → length (datagrams way (before ++ r ∷ [])) ≡ length (datagrams way before) + one_if (is_some (datagram_in way before r))
datagrams_more way before r =
    ap length (trail-push (λ before r. option_to_list (datagram_in way before r)) before r)
    ∙ length-append (datagrams way before) (option_to_list (datagram_in way before r))
    ∙ ap (λ n. length (datagrams way before) + n) (length-option (datagram_in way before r))

flows_more : (way : Way) (before : List LinkedRecord) (r : LinkedRecord)
    → begun (most_flows way.stream) (touches way (before ++ r ∷ [])) ≡
    begun (most_flows way.stream) (touches way before) + one_if (is_fresh (touch_in way before r))
unfolding touch_in
flows_more way before r =
    ap (begun (most_flows way.stream)) (touches-push way before r)
    ∙ begun-option (most_flows way.stream) (touches way before) (key_in way before r)

counts-grown : (way : Way) (before : List LinkedRecord) (r : LinkedRecord)
    → counts way (before ++ r ∷ [])
    ≡ grown (counts way before) (one_for is_short (skip_in way before r))
    (one_for is_other (skip_in way before r))
    (one_for is_checksum (skip_in way before r))
    (one_for is_malformed (skip_in way before r))
    (one_if (is_some (fragment_fields (said_by way r))))
    (one_if (is_some (datagram_in way before r)))
    (one_if (is_fresh (touch_in way before r)))
unfolding counts grown made
counts-grown way before r =
    same_made _ _ _ _ _ _ _ _ _ _ _ _ _ _ _ _
    (length-append before (r ∷ []))
    (skips_more way before r is_short) (skips_more way before r is_other) (skips_more way before r is_checksum) (skips_more way before r is_malformed)
    (fragments_more way before r) (datagrams_more way before r) (flows_more way before r)

-- the counts of one record more, by what it brought and what its touch found
pub counts-push : (way : Way) (before : List LinkedRecord) (r : LinkedRecord) (content : RecordContent) (touch : Option Touch)
    → content.skip ≡ skip_in way before r → is_some content.fragment ≡ is_some (fragment_fields (said_by way r)) → content.rebuilt ≡ is_some (datagram_in way before r) → touch ≡ touch_in way before r
    → counts_after (counts way before) content touch ≡ counts way (before ++ r ∷ [])
unfolding counts_after counts_as
counts-push way before r content touch skip_is fragment_is rebuilt_is touch_is =
    let base : RecordCounts = counts way before in
    ap (λ o. counts_as base o (is_some content.fragment) content.rebuilt (is_fresh touch)) skip_is
    ∙ ap (λ b. counts_as base (skip_in way before r) b content.rebuilt (is_fresh touch)) fragment_is
    ∙ ap (λ b. counts_as base (skip_in way before r) (is_some (fragment_fields (said_by way r))) b (is_fresh touch)) rebuilt_is
    ∙ ap (λ t. counts_as base (skip_in way before r) (is_some (fragment_fields (said_by way r))) (is_some (datagram_in way before r)) (is_fresh t)) touch_is
    ∙ counts_as-grown base (skip_in way before r) (is_some (fragment_fields (said_by way r))) (is_some (datagram_in way before r)) (is_fresh (touch_in way before r))
    ∙ sym (counts-grown way before r)

-- the records are counted
pub records-counted : (way : Way) (front : FrontState) (before : List LinkedRecord) → IsFrontAfter way front before → front.counts.records ≡ length before
unfolding counts
records-counted way front before holds = ap (λ (c : RecordCounts). c.records) holds.counts
