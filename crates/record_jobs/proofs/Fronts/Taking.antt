-- A front that takes a record stands for one record more.
use Rattle.std.proofs.Common.{◌≡◌, ℕ, ◌+◌, ◌≤◌, List, [], ◌∷◌, ◌++◌, length, Option, Some, None, refl, sym, ap, ◌∙◌, subst, IfSome}
use Rattle.std.specs.Prelude.{All, is_some}
use Rattle.std.specs.List.{AllByRecursion}
use Rattle.std.specs.Option.{option_map, option_to_list}
use Rattle.std.proofs.lemmas.List.Elements.{All-append, All-from_recursion}
use Rattle.edge_io.specs.Along.{trail}
use Rattle.edge_io.specs.declared.moment.Moment.{Moment}
use Rattle.frag3_core.specs.Trackers.{Frag3State}
use Rattle.stream5_sessions.specs.declared.flows.Touch.{Touch}
use Rattle.stream5_sessions.specs.declared.key.Key.{Key}
use Rattle.stream5_sessions.specs.Caches.{HasSeen}
use Rattle.stream5_sessions.specs.Liveness.{MaxFlows, touch_found}
use Rattle.flow_lanes.specs.declared.job.Job.{Job}
use Rattle.flow_lanes.specs.declared.job.Work.{Work}
use Rattle.flow_lanes.specs.declared.job.Work.TheVariants as work
use Rattle.record_jobs.specs.declared.counts.RecordCounts.{RecordCounts}
use Rattle.record_jobs.specs.declared.content.RecordContent.{RecordContent}
use Rattle.record_jobs.specs.declared.item.RecordItem.{RecordItem}
use Rattle.record_jobs.specs.declared.time.Time.{Time}
use Rattle.record_jobs.specs.Counts.{counts}
use Rattle.record_jobs.specs.Fronts.{FrontState, HasTaken, IsFrontAfter}
use Rattle.record_jobs.specs.Jobs.{alone, begin_of, evicted_by, flow_packet, job_count, jobs, numbered, packet_work, time_by, time_of, works, works_by}
use Rattle.record_jobs.specs.Packets.{datagram_from, fragment_item, frag3_after, packet_in, said_by}
use Rattle.record_jobs.specs.Ready.{HasShortData, HasShortWork}
use Rattle.record_jobs.specs.Steps.{IsShortDatagram, IsShortItem, Steps, content_key, content_works, counts_after, record_content, waiting_after}
use Rattle.record_jobs.specs.Touches.{key_in, most_flows, touch_in, touches}
use Rattle.record_jobs.specs.Way.{LinkedRecord, Way}
use Rattle.record_jobs.proofs.Fronts.Contents.{content-fragment, content-is_fragment, content-key, content-packet, content-rebuilt, content-skip}
use Rattle.record_jobs.proofs.Fronts.Counting.{counts-push}
use Rattle.record_jobs.proofs.Growth.{begin_of-push, end_of-push, frag3_after-push, job_count-push, touches-push, trail-push}
use Rattle.record_jobs.proofs.Fronts.Sizes.{datagram-short}

-- ---- a record's packets are short

AllByRecursion-append : {X : Type 0} (P : X → Type 0) (xs ys : List X) → AllByRecursion P xs → AllByRecursion P ys → AllByRecursion P (xs ++ ys)
AllByRecursion-append P [] ys all more = more
AllByRecursion-append P (x ∷ xs) ys all more = (all.0, AllByRecursion-append P xs ys all.1 more)

short_numbered : (number : ℕ) (moment : Moment) (xs : List Work) → AllByRecursion HasShortWork xs → AllByRecursion HasShortData (numbered number moment xs)
short_numbered number moment [] all = tt
short_numbered number moment (x ∷ xs) all = (all.0, short_numbered (number + 1) moment xs all.1)

short_packet : (way : Way) (time : Time) (touch : Option Touch) (item : RecordItem) → length item.payload ≤ 65535 → HasShortWork (packet_work way time touch item)
unfolding flow_packet
short_packet way time None item h = tt
short_packet way time (Some touch) item h = h

short_works : (way : Way) (time : Time) (touch : Option Touch) (fragment packet : Option RecordItem)
    → IfSome packet (λ item. length item.payload ≤ 65535)
    → AllByRecursion HasShortWork (works_by way time touch fragment packet)
short_works way time touch fragment packet h =
    AllByRecursion-append HasShortWork (option_to_list (option_map (λ flow. work.Finish flow) (evicted_by touch)))
    (option_to_list (option_map alone fragment) ++ option_to_list (option_map (packet_work way time touch) packet))
    (finish (evicted_by touch))
    (AllByRecursion-append HasShortWork (option_to_list (option_map alone fragment))
    (option_to_list (option_map (packet_work way time touch) packet))
    (part fragment) (whole packet h))
  where
    finish : (o : Option ℕ) → AllByRecursion HasShortWork (option_to_list (option_map (λ flow. work.Finish flow) o))
    finish None = tt
    finish (Some flow) = (tt, tt)

    part : (o : Option RecordItem) → AllByRecursion HasShortWork (option_to_list (option_map alone o))
    part None = tt
    part (Some item) = (tt, tt)

    whole : (o : Option RecordItem) → IfSome o (λ item. length item.payload ≤ 65535) → AllByRecursion HasShortWork (option_to_list (option_map (packet_work way time touch) o))
    whole None h = tt
    whole (Some item) h = (short_packet way time touch item h, tt)

short_jobs : (way : Way) (before : List LinkedRecord) (r : LinkedRecord) → IfSome (packet_in way before r) (λ item. length item.payload ≤ 65535) → All HasShortData (jobs way before r)
unfolding jobs works
short_jobs way before r h =
    All-from_recursion HasShortData (jobs way before r)
    (short_numbered (job_count way before) r.captured.moment (works way before r) (short_works way (time_of before r) (touch_in way before r) (fragment_item way r) (packet_in way before r) h))

-- ---- the step

touch_in-is : (way : Way) (before : List LinkedRecord) (r : LinkedRecord) → option_map (touch_found (most_flows way.stream) (touches way before)) (key_in way before r) ≡ touch_in way before r
unfolding touch_in
touch_in-is way before r = refl

works-are : (way : Way) (before : List LinkedRecord) (r : LinkedRecord)
    → works_by way (time_by (begin_of before) r) (touch_in way before r) (fragment_item way r) (packet_in way before r) ≡
    works way before r
unfolding works
works-are way before r = refl

jobs-are : (way : Way) (before : List LinkedRecord) (r : LinkedRecord) → numbered (job_count way before) r.captured.moment (works way before r) ≡ jobs way before r
unfolding jobs
jobs-are way before r = refl

pub takes : (way : Way) (old : FrontState) (r : LinkedRecord) (new : FrontState) (jobs_old jobs_new : List Job) → Steps way old r new jobs_old jobs_new
    → (before : List LinkedRecord) → IsFrontAfter way old before → HasTaken way before r new jobs_old jobs_new
takes way old r new jobs_old jobs_new steps before holds = record { added = added; holds = after }
  where
    content : RecordContent
    content = record_content way old.frag3 r

    content_is : content ≡ record_content way (frag3_after way before) r
    content_is = ap (λ (f : Option Frag3State). record_content way f r) holds.frag3

    packet_is : content.packet ≡ packet_in way before r
    packet_is = ap (λ (c : RecordContent). c.packet) content_is ∙ content-packet way before r

    fragment_is : content.fragment ≡ fragment_item way r
    fragment_is = ap (λ (c : RecordContent). c.fragment) content_is ∙ content-fragment way before r

    key_is : content_key way content ≡ key_in way before r
    key_is = ap (content_key way) content_is ∙ content-key way before r

    touch_is : steps.touch ≡ touch_in way before r
    touch_is =
        steps.found (touches way before) holds.flows
        ∙ ap (λ (max : MaxFlows). option_map (touch_found max (touches way before)) (content_key way content)) holds.most
        ∙ ap (option_map (touch_found (most_flows way.stream) (touches way before))) key_is
        ∙ touch_in-is way before r

    works_are : content_works way old.begin r steps.touch content ≡ works way before r
    works_are =
        ap (λ (b : Option Moment). works_by way (time_by b r) steps.touch content.fragment content.packet) holds.begin
        ∙ ap (λ (t : Option Touch). works_by way (time_by (begin_of before) r) t content.fragment content.packet) touch_is
        ∙ ap (λ (o : Option RecordItem). works_by way (time_by (begin_of before) r) (touch_in way before r) o content.packet) fragment_is
        ∙ ap (works_by way (time_by (begin_of before) r) (touch_in way before r) (fragment_item way r)) packet_is
        ∙ works-are way before r

    added : jobs_new ≡ jobs_old ++ jobs way before r
    added =
        steps.added.added
        ∙ ap (λ (n : ℕ). jobs_old ++ numbered n r.captured.moment (content_works way old.begin r steps.touch content)) holds.next
        ∙ ap (λ (ws : List Work). jobs_old ++ numbered (job_count way before) r.captured.moment ws) works_are
        ∙ ap (λ (js : List Job). jobs_old ++ js) (jobs-are way before r)

    seen : HasSeen new.flows (touches way (before ++ r ∷ []))
    seen =
        subst (λ (ts : List Key). HasSeen new.flows ts)
        (ap (λ (o : Option Key). option_to_list o ++ touches way before) key_is ∙ sym (touches-push way before r))
        (steps.sees (touches way before) holds.flows)

    counted : new.counts ≡ counts way (before ++ r ∷ [])
    counted =
        steps.counts
        ∙ ap (λ (c : RecordCounts). counts_after c content steps.touch) holds.counts
        ∙ counts-push way before r content steps.touch
        (ap (λ (c : RecordContent). c.skip) content_is ∙ content-skip way before r)
        (ap (λ (c : RecordContent). is_some c.fragment) content_is ∙ content-is_fragment way before r)
        (ap (λ (c : RecordContent). c.rebuilt) content_is ∙ content-rebuilt way before r)
        touch_is

    packet_short : IfSome (packet_in way before r) IsShortItem
    packet_short =
        subst (λ (o : Option RecordItem). IfSome o IsShortItem) packet_is
        (steps.short (subst (λ (f : Option Frag3State). IfSome (datagram_from way f r.captured.moment (said_by way r)) IsShortDatagram) (sym holds.frag3) (datagram-short way before r)))

    after : IsFrontAfter way new (before ++ r ∷ [])
    after = record {
      frag3 = steps.frag3 ∙ ap (λ (f : Option Frag3State). waiting_after way f r) holds.frag3 ∙ sym (frag3_after-push way before r);
      flows = seen;
      most = steps.most ∙ holds.most;
      begin = steps.begin ∙ ap (λ (b : Option Moment). Some (time_by b r).first) holds.begin ∙ sym (begin_of-push before r);
      last = steps.last ∙ sym (end_of-push before r);
      next =
          steps.added.number_is
          ∙ ap (λ (n : ℕ). n + length (content_works way old.begin r steps.touch content)) holds.next
          ∙ ap (λ (ws : List Work). job_count way before + length ws) works_are
          ∙ sym (job_count-push way before r);
      counts = counted;
      short =
          subst (λ (js : List Job). All HasShortData js) (sym (trail-push (jobs way) before r))
          (All-append HasShortData (trail (jobs way) before) (jobs way before r) holds.short (short_jobs way before r packet_short));
    }
