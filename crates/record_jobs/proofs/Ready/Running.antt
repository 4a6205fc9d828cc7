-- All jobs of a capture's records, one after another: they are sound, and numbered by their places.
use Rattle.std.proofs.Common.{◌≡◌, ℕ, ◌+◌, ◌^◌, ◌<◌, ◌≤◌, List, [], ◌∷◌, ◌++◌, length, map, Option, Some, None, refl, sym, ap, ◌∙◌, subst, suc, zero, IfSome, append_assoc, length-append, arith}
use Rattle.std.specs.Bool.{⊤}
use Rattle.std.specs.Prelude.{All, filter, option_and_then}
use Rattle.std.specs.List.{AllByRecursion, range_with_len}
use Rattle.std.specs.Option.{option_map, option_to_list}
use Rattle.std.proofs.lemmas.List.{append-nil, map-append}
use Rattle.std.proofs.lemmas.List.Elements.{recursion_from_All}
use Rattle.edge_io.specs.Along.{trail, trail_from}
use Rattle.edge_io.specs.declared.moment.Moment.{Moment}
use Rattle.stream5_sessions.specs.declared.flows.Touch.{Touch}
use Rattle.stream5_sessions.specs.declared.key.Key.{Key}
use Rattle.stream5_sessions.specs.Liveness.{live_flows, touch_found}
use Rattle.flow_lanes.specs.declared.job.Job.{Job}
use Rattle.flow_lanes.specs.declared.job.Work.{Work}
use Rattle.flow_lanes.specs.declared.job.Work.TheVariants as work
use Rattle.flow_lanes.specs.Flows.{same_flow}
use Rattle.flow_lanes.specs.Sound.{IsSoundFor, facts_after}
use Rattle.record_jobs.specs.declared.item.RecordItem.{RecordItem}
use Rattle.record_jobs.specs.declared.time.Time.{Time}
use Rattle.record_jobs.specs.Jobs.{alone, end_of, evicted_by, finishes, flow_packet, job_count, jobs, numbered, packet_work, time_of, works, works_by}
use Rattle.record_jobs.specs.Packets.{fragment_item, packet_in}
use Rattle.record_jobs.specs.Ready.{AreInOrder, AreNumbered, HasShortData, HasShortWork, all_jobs}
use Rattle.record_jobs.specs.Touches.{item_key, key_in, most_flows, touch_in, touches}
use Rattle.record_jobs.specs.Way.{LinkedRecord, Way}
use Rattle.record_jobs.proofs.Growth.{job_count-push, length-numbered, numbered-append, touches-push, trail-push}
use Rattle.record_jobs.proofs.Ready.Knowing.{flow_number-touched}
use Rattle.record_jobs.proofs.Ready.Sounding.{Goes, Goes-append, KnowsAll, Sounds, Sounds-append, alone_job, finish_job, later_all, no_job, packet_job}

-- ---- the jobs of one record

finish_part : (way : Way) (keys : List Key) (packets : ℕ) (earlier : List Job) (number : ℕ) (moment : Moment) (ended : Option ℕ) → KnowsAll way keys packets earlier
    → Goes way keys packets earlier (numbered number moment (option_to_list (option_map (λ flow. work.Finish flow) ended)))
finish_part way keys packets earlier number moment None knows = no_job way keys packets earlier knows
finish_part way keys packets earlier number moment (Some flow) knows = finish_job way keys packets earlier number moment flow knows

fragment_part : (way : Way) (keys : List Key) (packets : ℕ) (earlier : List Job) (number : ℕ) (moment : Moment) (fragment : Option RecordItem) → KnowsAll way keys packets earlier
    → Goes way keys packets earlier (numbered number moment (option_to_list (option_map alone fragment)))
fragment_part way keys packets earlier number moment None knows = no_job way keys packets earlier knows
fragment_part way keys packets earlier number moment (Some item) knows = alone_job way keys packets earlier number moment item knows

-- a packet's data are short, where it is of a flow
IsShortItem : Way → Option RecordItem → Type 0
IsShortItem way None = ⊤
IsShortItem way (Some item) = IfSome (item_key way item) (λ (_ : Key). length item.payload ≤ 65535)

packet_part : (way : Way) (keys : List Key) (packets : ℕ) (earlier : List Job) (number : ℕ) (time : Time) (packet : Option RecordItem)
    → KnowsAll way keys packets earlier
    → packets < 2 ^ 32
    → IsShortItem way packet
    → Goes way (option_to_list (option_and_then (item_key way) packet) ++ keys) (packets + 1) earlier
    (numbered number time.now
    (option_to_list (option_map
    (packet_work way time (option_map (touch_found (most_flows way.stream) keys) (option_and_then (item_key way) packet)))
    packet)))
unfolding IsShortItem
packet_part way keys packets earlier number time None knows few short = no_job way keys (packets + 1) earlier (later_all way None keys packets earlier knows)
packet_part way keys packets earlier number time (Some item) knows few short = go (item_key way item) refl short
  where
    go : (key : Option Key) → item_key way item ≡ key → IfSome key (λ (_ : Key). length item.payload ≤ 65535)
        → Goes way (option_to_list key ++ keys) (packets + 1) earlier (numbered number time.now (packet_work way time (option_map (touch_found (most_flows way.stream) keys) key) item ∷ []))
    go None is short = alone_job way keys (packets + 1) earlier number time.now item (later_all way None keys packets earlier knows)
    go (Some key) is short =
        packet_job way keys packets earlier number time item key (touch_found (most_flows way.stream) keys key).flow knows is
        (flow_number-touched (most_flows way.stream) keys key) few short

-- ---- a packet of a flow is among the jobs

split_all : {X : Type 0} (P : X → Type 0) (xs ys : List X) → AllByRecursion P (xs ++ ys) → AllByRecursion P xs × AllByRecursion P ys
split_all P [] ys all = (tt, all)
split_all P (x ∷ xs) ys all = let rest = split_all P xs ys all.1 in ((all.0, rest.0), rest.1)

short_work : (number : ℕ) (moment : Moment) (todo : List Work) → AllByRecursion HasShortData (numbered number moment todo) → AllByRecursion HasShortWork todo
short_work number moment [] all = tt
short_work number moment (x ∷ xs) all = (all.0, short_work (number + 1) moment xs all.1)

short_item : (way : Way) (keys : List Key) (time : Time) (packet : Option RecordItem)
    → AllByRecursion HasShortWork
    (option_to_list (option_map
    (packet_work way time (option_map (touch_found (most_flows way.stream) keys) (option_and_then (item_key way) packet)))
    packet))
    → IsShortItem way packet
unfolding IsShortItem flow_packet
short_item way keys time None all = tt
short_item way keys time (Some item) all = go (item_key way item) all.0
  where
    go : (key : Option Key) → HasShortWork (packet_work way time (option_map (touch_found (most_flows way.stream) keys) key) item) → IfSome key (λ (_ : Key). length item.payload ≤ 65535)
    go None short = tt
    go (Some key) short = short

-- ---- the step

works_so : (way : Way) (before : List LinkedRecord) (r : LinkedRecord)
    → works way before r
    ≡ works_by way (time_of before r)
    (option_map (touch_found (most_flows way.stream) (touches way before))
    (option_and_then (item_key way) (packet_in way before r)))
    (fragment_item way r) (packet_in way before r)
unfolding works touch_in key_in
works_so way before r = refl

jobs_so : (way : Way) (before : List LinkedRecord) (r : LinkedRecord) → jobs way before r ≡ numbered (job_count way before) r.captured.moment (works way before r)
unfolding jobs
jobs_so way before r = refl

key_in_so : (way : Way) (before : List LinkedRecord) (r : LinkedRecord) → key_in way before r ≡ option_and_then (item_key way) (packet_in way before r)
unfolding key_in
key_in_so way before r = refl

record_goes : (way : Way) (before : List LinkedRecord) (r : LinkedRecord) (earlier : List Job) → KnowsAll way (touches way before) (length before) earlier → length before < 2 ^ 32
    → AllByRecursion HasShortData (jobs way before r) → Goes way (touches way (before ++ r ∷ [])) (length (before ++ r ∷ [])) earlier (jobs way before r)
record_goes way before r earlier knows few short =
    subst (λ (js : List Job). Goes way (touches way (before ++ r ∷ [])) (length (before ++ r ∷ [])) earlier js) (sym jobs_are)
    (subst (λ (n : ℕ). Goes way (touches way (before ++ r ∷ [])) n earlier (first ++ (second ++ third))) (sym (length-append before (r ∷ [])))
    (subst (λ (ks : List Key). Goes way ks (length before + 1) earlier (first ++ (second ++ third))) (sym touches_are)
    (Goes-append way keys more (length before) (length before + 1) earlier first (second ++ third) first_goes
    (Goes-append way keys more (length before) (length before + 1) (earlier ++ first) second third second_goes third_goes))))
  where
    keys : List Key
    keys = touches way before

    packet : Option RecordItem
    packet = packet_in way before r

    more : List Key
    more = option_to_list (option_and_then (item_key way) packet) ++ keys

    touch : Option Touch
    touch = option_map (touch_found (most_flows way.stream) keys) (option_and_then (item_key way) packet)

    time : Time
    time = time_of before r

    ends : List Work
    ends = option_to_list (option_map (λ flow. work.Finish flow) (evicted_by touch))

    parts : List Work
    parts = option_to_list (option_map alone (fragment_item way r))

    wholes : List Work
    wholes = option_to_list (option_map (packet_work way time touch) packet)

    number : ℕ
    number = job_count way before

    first : List Job
    first = numbered number time.now ends

    second : List Job
    second = numbered (number + length ends) time.now parts

    third : List Job
    third = numbered (number + length ends + length parts) time.now wholes

    jobs_are : jobs way before r ≡ first ++ (second ++ third)
    jobs_are =
        jobs_so way before r
        ∙ ap (numbered number time.now) (works_so way before r)
        ∙ numbered-append number time.now ends (parts ++ wholes)
        ∙ ap (λ (js : List Job). first ++ js) (numbered-append (number + length ends) time.now parts wholes)

    touches_are : touches way (before ++ r ∷ []) ≡ more
    touches_are = touches-push way before r ∙ ap (λ (o : Option Key). option_to_list o ++ keys) (key_in_so way before r)

    first_goes : Goes way keys (length before) earlier first
    first_goes = finish_part way keys (length before) earlier number time.now (evicted_by touch) knows

    second_goes : Goes way keys (length before) (earlier ++ first) second
    second_goes = fragment_part way keys (length before) (earlier ++ first) (number + length ends) time.now (fragment_item way r) first_goes.knows

    short_third : AllByRecursion HasShortData third
    short_third = (split_all HasShortData second third (split_all HasShortData first (second ++ third) (subst (AllByRecursion HasShortData) jobs_are short)).1).1

    third_goes : Goes way more (length before + 1) ((earlier ++ first) ++ second) third
    third_goes =
        packet_part way keys (length before) ((earlier ++ first) ++ second) (number + length ends + length parts) time packet second_goes.knows few
        (short_item way keys time packet (short_work (number + length ends + length parts) time.now wholes short_third))

-- ---- all records

run_goes : (way : Way) (before records : List LinkedRecord) → KnowsAll way (touches way before) (length before) (trail (jobs way) before) → length before + length records ≤ 2 ^ 32
    → AllByRecursion HasShortData (trail_from (jobs way) before records) → Sounds (length way.stream.engines) (trail (jobs way) before) (trail_from (jobs way) before records)
run_goes way before [] knows few short = tt
run_goes way before (r ∷ records) knows few short =
    Sounds-append (length way.stream.engines) (trail (jobs way) before) (jobs way before r) (trail_from (jobs way) (before ++ r ∷ []) records) goes.sounds
    (subst (λ (front : List Job). Sounds (length way.stream.engines) front (trail_from (jobs way) (before ++ r ∷ []) records)) (trail-push (jobs way) before r)
    (run_goes way (before ++ r ∷ []) records
    (subst (KnowsAll way (touches way (before ++ r ∷ [])) (length (before ++ r ∷ []))) (sym (trail-push (jobs way) before r)) goes.knows)
    (let longer = length-append before (r ∷ []) in omega (arith, longer, few)) parts.1))
  where
    parts : AllByRecursion HasShortData (jobs way before r) × AllByRecursion HasShortData (trail_from (jobs way) (before ++ r ∷ []) records)
    parts = split_all HasShortData (jobs way before r) (trail_from (jobs way) (before ++ r ∷ []) records) short

    goes : Goes way (touches way (before ++ r ∷ [])) (length (before ++ r ∷ [])) (trail (jobs way) before) (jobs way before r)
    goes = record_goes way before r (trail (jobs way) before) knows (omega (arith, few)) parts.0

knows_none : (way : Way) → KnowsAll way (touches way []) 0 []
knows_none way flow = tt

-- ends of flows are sound anywhere
finishes_sound : (engines : ℕ) (earlier : List Job) (number : ℕ) (moment : Moment) (flows : List ℕ) → Sounds engines earlier (numbered number moment (map (λ flow. work.Finish flow) flows))
finishes_sound engines earlier number moment [] = tt
finishes_sound engines earlier number moment (flow ∷ flows) = (
  tt,
  finishes_sound engines (earlier ++ record { number = number; moment = moment; work = work.Finish flow } ∷ [])
      (number + 1) moment flows,
)

all_sound : (way : Way) (records : List LinkedRecord) → length records ≤ 2 ^ 32 → All HasShortData (trail (jobs way) records) → Sounds (length way.stream.engines) [] (all_jobs way records)
unfolding finishes
all_sound way records few short =
    Sounds-append (length way.stream.engines) [] (trail (jobs way) records) (finishes way records)
    (run_goes way [] records (knows_none way) (let e : 0 + length records ≤ 2 ^ 32 = omega arith in e) (recursion_from_All HasShortData (trail (jobs way) records) short))
    (finishes_sound (length way.stream.engines) (trail (jobs way) records) (job_count way records) (end_of records) (live_flows (most_flows way.stream) (touches way records)))

-- sound one by one is sound at each place
pub head_is : {X : Type 0} (x y : X) (xs ys : List X) → x ∷ xs ≡ y ∷ ys → x ≡ y
head_is x y xs ys e = cc

pub tail_is : {X : Type 0} (x y : X) (xs ys : List X) → x ∷ xs ≡ y ∷ ys → xs ≡ ys
tail_is x y xs ys e = cc

sound_at : (engines : ℕ) (earlier xs : List Job) → Sounds engines earlier xs → (front : List Job) (job : Job) (rest : List Job) → xs ≡ front ++ job ∷ rest
    → IsSoundFor engines (facts_after None (filter (same_flow job) (earlier ++ front))) job
sound_at engines earlier [] sounds [] job rest e = cc
sound_at engines earlier [] sounds (y ∷ front) job rest e = cc
sound_at engines earlier (x ∷ xs) sounds [] job rest e =
    subst (λ (j : Job). IsSoundFor engines (facts_after None (filter (same_flow j) (earlier ++ []))) j) (head_is x job xs rest e)
    (subst (λ (front : List Job). IsSoundFor engines (facts_after None (filter (same_flow x) front)) x) (sym (append-nil earlier)) sounds.0)
sound_at engines earlier (x ∷ xs) sounds (y ∷ front) job rest e =
    subst (λ (es : List Job). IsSoundFor engines (facts_after None (filter (same_flow job) es)) job)
    (append_assoc earlier (x ∷ []) front ∙ ap (λ (j : Job). earlier ++ j ∷ front) (head_is x y xs (front ++ job ∷ rest) e))
    (sound_at engines (earlier ++ x ∷ []) xs sounds.1 front job rest (tail_is x y xs (front ++ job ∷ rest) e))

-- ---- numbers

pub range_with_len-append : (a m n : ℕ) → range_with_len a (m + n) ≡ range_with_len a m ++ range_with_len (a + m) n
range_with_len-append a zero n = ap (range_with_len a) (let e : 0 + n ≡ n = omega arith in e) ∙ ap (λ b. range_with_len b n) (let e : a ≡ a + 0 = omega arith in e)
range_with_len-append a (suc m) n =
    ap (range_with_len a) (let e : suc m + n ≡ suc (m + n) = omega arith in e)
    ∙ ap (λ rest. a ∷ rest) (range_with_len-append (a + 1) m n ∙ ap (λ b. range_with_len (a + 1) m ++ range_with_len b n) (let e : (a + 1) + m ≡ a + suc m = omega arith in e))

numbers_of : (number : ℕ) (moment : Moment) (todo : List Work) → map (λ (job : Job). job.number) (numbered number moment todo) ≡ range_with_len number (length todo)
numbers_of number moment [] = refl
numbers_of number moment (x ∷ xs) = ap (λ rest. number ∷ rest) (numbers_of (number + 1) moment xs)

jobs_numbers : (way : Way) (before : List LinkedRecord) (r : LinkedRecord) → map (λ (job : Job). job.number) (jobs way before r) ≡ range_with_len (job_count way before) (length (jobs way before r))
jobs_numbers way before r =
    ap (map (λ (job : Job). job.number)) (jobs_so way before r)
    ∙ numbers_of (job_count way before) r.captured.moment (works way before r)
    ∙ ap (range_with_len (job_count way before)) (sym (ap length (jobs_so way before r) ∙ length-numbered (job_count way before) r.captured.moment (works way before r)))

job_count-after : (way : Way) (before : List LinkedRecord) (r : LinkedRecord) → job_count way (before ++ r ∷ []) ≡ job_count way before + length (jobs way before r)
job_count-after way before r =
    job_count-push way before r
    ∙ ap (λ (n : ℕ). job_count way before + n) (sym (ap length (jobs_so way before r) ∙ length-numbered (job_count way before) r.captured.moment (works way before r)))

run_numbers : (way : Way) (before records : List LinkedRecord)
    → map (λ (job : Job). job.number) (trail_from (jobs way) before records) ≡
    range_with_len (job_count way before) (length (trail_from (jobs way) before records))
run_numbers way before [] = refl
run_numbers way before (r ∷ records) =
    map-append (λ (job : Job). job.number) (jobs way before r) rest
    ∙ ap (λ (ns : List ℕ). ns ++ map (λ (job : Job). job.number) rest) (jobs_numbers way before r)
    ∙ ap (λ (ns : List ℕ). range_with_len (job_count way before) (length (jobs way before r)) ++ ns) (run_numbers way (before ++ r ∷ []) records)
    ∙ ap (λ (n : ℕ). range_with_len (job_count way before) (length (jobs way before r)) ++ range_with_len n (length rest)) (job_count-after way before r)
    ∙ sym (range_with_len-append (job_count way before) (length (jobs way before r)) (length rest))
    ∙ ap (range_with_len (job_count way before)) (sym (length-append (jobs way before r) rest))
  where
    rest : List Job
    rest = trail_from (jobs way) (before ++ r ∷ []) records

-- there are as many jobs as there is to do
run_count : (way : Way) (before records : List LinkedRecord) → job_count way before + length (trail_from (jobs way) before records) ≡ job_count way (before ++ records)
run_count way before [] = let e : job_count way before + 0 ≡ job_count way before = omega arith in e ∙ ap (job_count way) (sym (append-nil before))
run_count way before (r ∷ records) =
    ap (λ (n : ℕ). job_count way before + n)
    (length-append (jobs way before r) (trail_from (jobs way) (before ++ r ∷ []) records))
    ∙ (let e : job_count way before + (length (jobs way before r) + length (trail_from (jobs way) (before ++ r ∷ []) records)) ≡
    job_count way before + length (jobs way before r) +
    length (trail_from (jobs way) (before ++ r ∷ []) records) = omega arith in e)
    ∙ ap (λ (n : ℕ). n + length (trail_from (jobs way) (before ++ r ∷ []) records)) (sym (job_count-after way before r))
    ∙ run_count way (before ++ r ∷ []) records
    ∙ ap (job_count way) (append_assoc before (r ∷ []) records)

count_none : (way : Way) → job_count way [] ≡ 0
unfolding job_count
count_none way = refl

pub count-is : (way : Way) (records : List LinkedRecord) → length (trail (jobs way) records) ≡ job_count way records
count-is way records =
    (let e : length (trail (jobs way) records) ≡ 0 + length (trail (jobs way) records) = omega arith in e)
    ∙ ap (λ (n : ℕ). n + length (trail (jobs way) records)) (sym (count_none way))
    ∙ run_count way [] records

all_numbered : (way : Way) (records : List LinkedRecord) → AreNumbered (all_jobs way records)
unfolding finishes
all_numbered way records =
    map-append (λ (job : Job). job.number) (trail (jobs way) records) ends
    ∙ ap (λ (ns : List ℕ). ns ++ map (λ (job : Job). job.number) ends) (run_numbers way [] records)
    ∙ ap (λ (n : ℕ). range_with_len n (length (trail (jobs way) records)) ++ map (λ (job : Job). job.number) ends) (count_none way)
    ∙ ap (λ (ns : List ℕ). range_with_len 0 (length (trail (jobs way) records)) ++ ns) ends_numbers
    ∙ sym (range_with_len-append 0 (length (trail (jobs way) records)) (length ends))
    ∙ ap (range_with_len 0) (sym (length-append (trail (jobs way) records) ends))
  where
    todo : List Work
    todo = map (λ flow. work.Finish flow) (live_flows (most_flows way.stream) (touches way records))

    ends : List Job
    ends = numbered (job_count way records) (end_of records) todo

    ends_numbers : map (λ (job : Job). job.number) ends ≡ range_with_len (0 + length (trail (jobs way) records)) (length ends)
    ends_numbers =
        numbers_of (job_count way records) (end_of records) todo
        ∙ ap (range_with_len (job_count way records)) (sym (length-numbered (job_count way records) (end_of records) todo))
        ∙ ap (λ (n : ℕ). range_with_len n (length ends)) (sym (count-is way records) ∙ (let e : length (trail (jobs way) records) ≡ 0 + length (trail (jobs way) records) = omega arith in e))

-- all jobs of a capture are in order
pub in_order : (way : Way) (records : List LinkedRecord) → AreInOrder way records
in_order way records = record {
  numbered = all_numbered way records;
  sound = λ few short. sound_at (length way.stream.engines) [] (all_jobs way records) (all_sound way records few short);
}
