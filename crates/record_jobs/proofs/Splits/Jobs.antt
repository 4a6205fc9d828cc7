-- What a record's jobs have of items, without the numbers of jobs and flows.
--
-- A flow's earlier jobs are found by its number, and where there is room for all flows, by its key as well. So items are
-- told by the packets of a key alone (`plain_items`), which speak of no number.
use Rattle.std.proofs.Common.{◌≡◌, ℕ, ◌+◌, ◌==◌, ◌||◌, Bool, true, false, cond, List, [], ◌∷◌, ◌++◌, Option, Some, None, map, fold, refl, sym, ap, subst, ◌∙◌, append_assoc, append-nil}
use Rattle.std.specs.Prelude.{option_and_then}
use Rattle.std.specs.List.{filter}
use Rattle.std.specs.Option.{option_map, option_to_list}
use Rattle.std.proofs.lemmas.List.{map-append}
use Rattle.std.proofs.lemmas.List.Elements.{filter-append}
use Rattle.edge_io.specs.Along.{trail, trail_from}
use Rattle.edge_io.specs.declared.moment.Moment.{Moment}
use Rattle.stream5_sessions.specs.declared.flows.Touch.{Touch}
use Rattle.stream5_sessions.specs.declared.key.Key.{Key}
use Rattle.stream5_sessions.specs.Keys.{same_key}
use Rattle.stream5_sessions.specs.Liveness.{MaxFlows, flow_number, is_touched, touch_found}
use Rattle.stream5_sessions.proofs.KeyLaws.{same_key-self}
use Rattle.flow_lanes.specs.declared.answer.Hits.{Hits}
use Rattle.flow_lanes.specs.declared.job.Job.{Job}
use Rattle.flow_lanes.specs.declared.job.Work.{Work}
use Rattle.flow_lanes.specs.declared.job.Work.TheVariants as work
use Rattle.flow_lanes.specs.Flows.{Detection, flow_of, flow_state, hits, hits_in, same_flow, same_number, session_at_hand, state_after, state_after_one, work_items}
use Rattle.record_jobs.specs.declared.item.RecordItem.{RecordItem}
use Rattle.record_jobs.specs.declared.time.Time.{Time}
use Rattle.record_jobs.specs.Jobs.{alone, flow_packet, job_count, jobs, numbered, packet_work, time_of, works, works_by}
use Rattle.record_jobs.specs.Packets.{fragment_item, packet_in}
use Rattle.record_jobs.specs.Touches.{item_key, key_in, most_flows, touch_in, touches}
use Rattle.record_jobs.specs.Way.{LinkedRecord, Way}
use Rattle.record_jobs.proofs.Growth.{touches-push, trail-push}
use Rattle.record_jobs.specs.Splitting.{items_of_job}
use Rattle.record_jobs.proofs.Splits.Flows.{Room, none-ended, number-later, number-tells, room-before, touched-later}

-- ---- beginnings of a list

along_go : {X : Type 0} (P : List X → Type 0) (xs : List X) → ((before : List X) (x : X) (rest : List X) → before ++ x ∷ rest ≡ xs → P before → P (before ++ x ∷ []))
    → (done todo rest : List X) → done ++ (todo ++ rest) ≡ xs → P done → P (done ++ todo)
along_go P xs step done [] rest are h = subst P (sym (append-nil done)) h
along_go P xs step done (x ∷ todo) rest are h =
    subst P (append_assoc done (x ∷ []) todo) (along_go P xs step (done ++ x ∷ []) todo rest (append_assoc done (x ∷ []) (todo ++ rest) ∙ are) (step done x (todo ++ rest) are h))

-- what holds of no element, and of one more where it holds of those before it, holds of each beginning
pub along_all : {X : Type 0} (P : List X → Type 0) (xs : List X) → P [] → ((before : List X) (x : X) (rest : List X) → before ++ x ∷ rest ≡ xs → P before → P (before ++ x ∷ []))
    → (before rest : List X) → before ++ rest ≡ xs → P before
along_all P xs start step before rest are = along_go P xs step [] before rest are start

-- ---- jobs without numbers

abbrev pub nameless_work : Work → Work
nameless_work (work.Alone head payload) = work.Alone head payload
nameless_work (work.Packet flow head payload to_dst to_src) = work.Packet 0 head payload to_dst to_src
nameless_work (work.Finish flow) = work.Finish 0

abbrev pub nameless : Job → Job
nameless job = record { number = 0; moment = job.moment; work = nameless_work job.work }

-- a fold sees no difference
fold-alike : {S X : Type 0} (f : S → X → S) (g : X → X) → ((s : S) (x : X) → f s (g x) ≡ f s x) → (s : S) (xs : List X) → fold f s (map g xs) ≡ fold f s xs
fold-alike f g same s [] = refl
fold-alike f g same s (x ∷ xs) = ap (λ state. fold f state (map g xs)) (same s x) ∙ fold-alike f g same (f s x) xs

module _ (d : Detection) where
  -- the items of a job after the earlier ones of its flow
  abbrev pub after : List Job → Job → List Hits
  after earlier job = (hits d earlier job).items

  flow_state-nameless : (earlier : List Job) → flow_state d (map nameless earlier) ≡ flow_state d earlier
  unfolding flow_state state_after_one
  flow_state-nameless earlier = fold-alike (state_after_one d) nameless (λ found job. by_work found job.number job.moment job.work) None earlier
    where
      by_work : (found : _) (number : ℕ) (moment : Moment) (todo : Work)
          → state_after_one d found (nameless (record { number = number; moment = moment; work = todo })) ≡ state_after_one d found (record { number = number; moment = moment; work = todo })
      by_work found number moment (work.Alone head payload) = refl
      by_work found number moment (work.Packet flow head payload to_dst to_src) = refl
      by_work found number moment (work.Finish flow) = refl

  pub after-nameless : (earlier : List Job) (job : Job) → after (map nameless earlier) (nameless job) ≡ after earlier job
  unfolding hits
  after-nameless earlier job = rw (flow_state-nameless earlier) (by_work job.work)
    where
      by_work : (todo : Work)
          → hits_in d.trying (work_items d.making job.moment (nameless_work todo) (session_at_hand (flow_state d earlier))) (flow_state d earlier)
          ≡ hits_in d.trying (work_items d.making job.moment todo (session_at_hand (flow_state d earlier))) (flow_state d earlier)
      by_work (work.Alone head payload) = refl
      by_work (work.Packet flow head payload to_dst to_src) = refl
      by_work (work.Finish flow) = refl

  -- a job is of the flow of this number
  abbrev pub of_number : ℕ → Job → Bool
  of_number flow job = same_number (Some flow) (flow_of job)

  filter-never : (test : Job → Bool) (earlier : List Job) → ((job : Job) → test job ≡ false) → filter test earlier ≡ []
  filter-never test [] never = refl
  filter-never test (job ∷ earlier) never = rw (never job) (filter-never test earlier never)

  -- an item by itself
  abbrev pub alone_job : Moment → RecordItem → Job
  alone_job moment item = record { number = 0; moment = moment; work = alone item }

  alone-items : (earlier : List Job) (number : ℕ) (moment : Moment) (item : RecordItem)
      → items_of_job d earlier (record { number = number; moment = moment; work = alone item }) ≡ after [] (alone_job moment item)
  alone-items earlier number moment item =
      let job : Job = record { number = number; moment = moment; work = alone item } in
      ap (λ (jobs : List Job). after jobs job) (filter-never (same_flow job) earlier (λ other. refl)) ∙ sym (after-nameless [] job)

  -- a packet of a flow whose earlier jobs are these, without their numbers
  abbrev pub packet_job : Way → Time → Moment → RecordItem → Job
  packet_job way time moment item = record { number = 0; moment = moment; work = flow_packet way time item 0 }

  packet-items : (way : Way) (time : Time) (moment : Moment) (item : RecordItem) (number flow : ℕ) (earlier own : List Job) → map nameless (filter (of_number flow) earlier) ≡ own
      → items_of_job d earlier (record { number = number; moment = moment; work = flow_packet way time item flow }) ≡ after own (packet_job way time moment item)
  unfolding flow_packet
  packet-items way time moment item number flow earlier own are =
      let job : Job = record { number = number; moment = moment; work = flow_packet way time item flow } in
      sym (after-nameless (filter (of_number flow) earlier) job) ∙ ap (λ (jobs : List Job). after jobs (packet_job way time moment item)) are

-- ---- the packets of a key

abbrev pub own_tracked : Way → Time → Moment → Key → RecordItem → Option Key → List Job
own_tracked way time moment key item None = []
own_tracked way time moment key item (Some other) =
    cond (same_key key other) (record { number = 0; moment = moment; work = flow_packet way time item 0 } ∷ []) []

abbrev pub own_packet : Way → Time → Moment → Key → Option RecordItem → List Job
own_packet way time moment key None = []
own_packet way time moment key (Some item) = own_tracked way time moment key item (item_key way item)

abbrev pub of_key : Way → Key → List LinkedRecord → LinkedRecord → List Job
of_key way key before r = own_packet way (time_of before r) r.captured.moment key (packet_in way before r)

-- the jobs of a record that are of a flow of this number
module _ (way : Way) (time : Time) (moment : Moment) (flow : ℕ) where
  abbrev chosen : ℕ → List Work → List Job
  chosen number todo = map nameless (filter (λ job. same_number (Some flow) (flow_of job)) (numbered number moment todo))

  chosen-none : (number : ℕ) (fragment packet : Option RecordItem) → chosen number (works_by way time None fragment packet) ≡ []
  chosen-none number None None = refl
  chosen-none number None (Some item) = refl
  chosen-none number (Some first) None = refl
  chosen-none number (Some first) (Some item) = refl

  chosen-some : (number : ℕ) (touch : Touch) (fragment : Option RecordItem) (item : RecordItem) → touch.evicted ≡ None
      → chosen number (works_by way time (Some touch) fragment (Some item)) ≡ cond (flow == touch.flow) (record { number = 0; moment = moment; work = flow_packet way time item 0 } ∷ []) []
  unfolding flow_packet
  chosen-some number touch fragment item none =
      ap (λ (o : Option ℕ). chosen number
      (option_to_list (option_map (λ ended. work.Finish ended) o) ++
      (option_to_list (option_map alone fragment) ++
      option_to_list (option_map (packet_work way time (Some touch)) (Some item)))))
      none
      ∙ by_fragment fragment
    where
      by_flow : (at : ℕ) (b : Bool)
          → map nameless (cond b (record { number = at; moment = moment; work = flow_packet way time item touch.flow } ∷ []) []) ≡
          cond b (record { number = 0; moment = moment; work = flow_packet way time item 0 } ∷ []) []
      by_flow at true = refl
      by_flow at false = refl

      by_fragment : (fragment : Option RecordItem)
          → chosen number (option_to_list (option_map alone fragment) ++ (flow_packet way time item touch.flow ∷ []))
          ≡ cond (flow == touch.flow) (record { number = 0; moment = moment; work = flow_packet way time item 0 } ∷ []) []
      by_fragment None = by_flow number (flow == touch.flow)
      by_fragment (Some first) = by_flow (number + 1) (flow == touch.flow)

-- ---- touches

-- the touches of more records
pub touches-grow : (way : Way) (before rest : List LinkedRecord) → (later : List Key) × (touches way (before ++ rest) ≡ later ++ touches way before)
touches-grow way before [] = ([], ap (touches way) (append-nil before))
touches-grow way before (r ∷ rest) =
    let more = touches-grow way (before ++ r ∷ []) rest in (
      more.0 ++ option_to_list (key_in way before r),
      ap (touches way) (sym (append_assoc before (r ∷ []) rest))
          ∙ more.1
          ∙ ap (λ (keys : List Key). more.0 ++ keys) (touches-push way before r)
          ∙ sym (append_assoc more.0 (option_to_list (key_in way before r)) (touches way before)),
    )

abbrev pub HasRoomFor : Way → List LinkedRecord → Type 0
HasRoomFor way records = Room (most_flows way.stream) (touches way records)

pub room-at : (way : Way) (records before rest : List LinkedRecord) → HasRoomFor way records → before ++ rest ≡ records → HasRoomFor way before
room-at way records before rest room are =
    let more = touches-grow way before rest in
    room-before (most_flows way.stream) more.0 (touches way before) (subst (Room (most_flows way.stream)) (ap (touches way) (sym are) ∙ more.1) room)

-- ---- the earlier jobs of a flow are the packets of its key
module _ (way : Way) (records : List LinkedRecord) (room : HasRoomFor way records) where
  abbrev most : MaxFlows
  most = most_flows way.stream

  abbrev all : List Key
  all = touches way records

  module _ (key : Key) (touched : is_touched (touches way records) key ≡ true) where
    abbrev number : ℕ
    number = flow_number most all key

    chosen-at : (before : List LinkedRecord) (r : LinkedRecord) (rest : List LinkedRecord) → before ++ r ∷ rest ≡ records
        → map nameless (filter (λ job. same_number (Some number) (flow_of job)) (jobs way before r)) ≡ of_key way key before r
    unfolding jobs works touch_in key_in
    chosen-at before r rest are = by_packet (packet_in way before r) refl
      where
        time : Time
        time = time_of before r

        moment : Moment
        moment = r.captured.moment

        Told : Option RecordItem → Type 0
        Told packet =
            chosen way time moment number (job_count way before)
            (works_by way time (option_map (touch_found most (touches way before)) (option_and_then (item_key way) packet))
            (fragment_item way r) packet)
            ≡ own_packet way time moment key packet

        of_tracked : (item : RecordItem) (other : Key) → packet_in way before r ≡ Some item → item_key way item ≡ Some other
            → chosen way time moment number (job_count way before) (works_by way time (Some (touch_found most (touches way before) other)) (fragment_item way r) (Some item))
            ≡ own_tracked way time moment key item (Some other)
        of_tracked item other found tracked =
            let pushed : touches way (before ++ r ∷ []) ≡ other ∷ touches way before =
            touches-push way before r ∙ ap (λ (o : Option RecordItem). option_to_list (option_and_then (item_key way) o) ++ touches way before) found
            ∙ ap (λ (o : Option Key). option_to_list o ++ touches way before) tracked in
            let more = touches-grow way (before ++ r ∷ []) rest in
            let whole : all ≡ more.0 ++ (other ∷ touches way before) =
            ap (touches way) (sym are ∙ sym (append_assoc before (r ∷ []) rest)) ∙ more.1 ∙ ap (λ (keys : List Key). more.0 ++ keys) pushed in
            let room_all : Room most (more.0 ++ (other ∷ touches way before)) = subst (Room most) whole room in
            let room_here : Room most (other ∷ touches way before) = room-before most more.0 (other ∷ touches way before) room_all in
            let here : is_touched (other ∷ touches way before) other ≡ true = rw (same_key-self other) refl in
            let kept : flow_number most all other ≡ flow_number most (other ∷ touches way before) other =
            ap (λ (keys : List Key). flow_number most keys other) whole ∙ number-later most more.0 (other ∷ touches way before) other room_all here in
            let there : is_touched all other ≡ true = ap (λ (keys : List Key). is_touched keys other) whole ∙ touched-later most more.0 (other ∷ touches way before) other here in
            let tells : (number == flow_number most (other ∷ touches way before) other) ≡ same_key key other =
            ap (λ (n : ℕ). number == n) (sym kept) ∙ number-tells most all key other touched there in
            chosen-some way time moment number (job_count way before) (touch_found most (touches way before) other) (fragment_item way r) item (none-ended most other (touches way before) room_here)
            ∙ ap (λ (b : Bool). cond b (record { number = 0; moment = moment; work = flow_packet way time item 0 } ∷ []) []) tells

        by_key : (item : RecordItem) (at : Option Key) → packet_in way before r ≡ Some item → item_key way item ≡ at
            → chosen way time moment number (job_count way before) (works_by way time (option_map (touch_found most (touches way before)) at) (fragment_item way r) (Some item))
            ≡ own_tracked way time moment key item at
        by_key item None found tracked = chosen-none way time moment number (job_count way before) (fragment_item way r) (Some item)
        by_key item (Some other) found tracked = of_tracked item other found tracked

        by_packet : (packet : Option RecordItem) → packet_in way before r ≡ packet → Told (packet_in way before r)
        by_packet None found = subst Told (sym found) (chosen-none way time moment number (job_count way before) (fragment_item way r) None)
        by_packet (Some item) found = subst Told (sym found) (by_key item (item_key way item) found refl)

    -- the jobs of the flow of this key, without their numbers
    pub flow-of_key : (before rest : List LinkedRecord) → before ++ rest ≡ records
        → map nameless (filter (λ job. same_number (Some number) (flow_of job)) (trail (jobs way) before)) ≡ trail (of_key way key) before
    flow-of_key = along_all Same records refl step
      where
        Same : List LinkedRecord → Type 0
        Same before = map nameless (filter (λ job. same_number (Some number) (flow_of job)) (trail (jobs way) before)) ≡ trail (of_key way key) before

        step : (before : List LinkedRecord) (r : LinkedRecord) (rest : List LinkedRecord) → before ++ r ∷ rest ≡ records → Same before → Same (before ++ r ∷ [])
        step before r rest are same =
            ap (λ (js : List Job). map nameless (filter (λ job. same_number (Some number) (flow_of job)) js)) (trail-push (jobs way) before r)
            ∙ ap (map nameless) (filter-append (λ job. same_number (Some number) (flow_of job)) (trail (jobs way) before) (jobs way before r))
            ∙ map-append nameless (filter (λ job. same_number (Some number) (flow_of job)) (trail (jobs way) before)) (filter (λ job. same_number (Some number) (flow_of job)) (jobs way before r))
            ∙ ap (λ (js : List Job). js ++ map nameless (filter (λ job. same_number (Some number) (flow_of job)) (jobs way before r))) same
            ∙ ap (λ (js : List Job). trail (of_key way key) before ++ js) (chosen-at before r rest are)
            ∙ sym (trail-push (of_key way key) before r)

-- ---- the items of a record
module _ (d : Detection) (way : Way) where
  abbrev pub plain_tracked : List LinkedRecord → LinkedRecord → RecordItem → Option Key → List Hits
  plain_tracked before r item None = after d [] (alone_job d r.captured.moment item)
  plain_tracked before r item (Some key) = after d (trail (of_key way key) before) (packet_job d way (time_of before r) r.captured.moment item)

  abbrev pub plain_packet : List LinkedRecord → LinkedRecord → Option RecordItem → List Hits
  plain_packet before r None = []
  plain_packet before r (Some item) = plain_tracked before r item (item_key way item)

  abbrev pub plain_fragment : LinkedRecord → Option RecordItem → List Hits
  plain_fragment r None = []
  plain_fragment r (Some item) = after d [] (alone_job d r.captured.moment item)

  -- the items of a record, by the packets of its key alone
  abbrev pub plain_items : List LinkedRecord → LinkedRecord → List Hits
  plain_items before r = plain_fragment r (fragment_item way r) ++ plain_packet before r (packet_in way before r)

  -- the items of a record, as the jobs of all records give them
  abbrev pub items_of_record : List LinkedRecord → LinkedRecord → List Hits
  items_of_record before r = trail_from (items_of_job d) (trail (jobs way) before) (jobs way before r)

  module _ (before : List LinkedRecord) (r : LinkedRecord) (room : HasRoomFor way (before ++ r ∷ [])) where
    abbrev earlier : List Job
    earlier = trail (jobs way) before

    abbrev most_here : MaxFlows
    most_here = most_flows way.stream

    -- a list of jobs at the record's moment
    abbrev given : ℕ → List Job → List Work → List Hits
    given number jobs todo = trail_from (items_of_job d) jobs (numbered number r.captured.moment todo)

    -- no job of these is of a flow
    abbrev Passed : List Job → Type 0
    Passed more = (flow : ℕ) → filter (of_number d flow) more ≡ []

    -- what is done after the fragment, if there is one
    after_fragment : (fragment : Option RecordItem) (todo : List Work) (last : List Hits)
        → ((number : ℕ) (more : List Job) → Passed more → given number (earlier ++ more) todo ≡ last)
        → given (job_count way before) earlier (option_to_list (option_map alone fragment) ++ todo) ≡ plain_fragment r fragment ++ last
    after_fragment None todo last rest =
        ap (λ (js : List Job). given (job_count way before) js todo) (sym (append-nil earlier)) ∙ rest (job_count way before) [] (λ flow. refl)
    after_fragment (Some item) todo last rest =
        let job : Job = record { number = job_count way before; moment = r.captured.moment; work = alone item } in
        ap (λ (front : List Hits). front ++ given (job_count way before + 1) (earlier ++ job ∷ []) todo) (alone-items d earlier (job_count way before) r.captured.moment item)
        ∙ ap (λ (back : List Hits). plain_fragment r (Some item) ++ back) (rest (job_count way before + 1) (job ∷ []) (λ flow. refl))

    pub items-plain : items_of_record before r ≡ plain_items before r
    unfolding jobs works touch_in key_in
    items-plain = by_packet (packet_in way before r) refl
      where
        moment : Moment
        moment = r.captured.moment

        time : Time
        time = time_of before r

        Told : Option RecordItem → Type 0
        Told packet =
            given (job_count way before) earlier (works_by way time (option_map (touch_found most_here (touches way before)) (option_and_then (item_key way) packet)) (fragment_item way r) packet)
            ≡ plain_fragment r (fragment_item way r) ++ plain_packet before r packet

        of_tracked : (item : RecordItem) (key : Key) → packet_in way before r ≡ Some item → item_key way item ≡ Some key
            → given (job_count way before) earlier (works_by way time (Some (touch_found most_here (touches way before) key)) (fragment_item way r) (Some item))
            ≡ plain_fragment r (fragment_item way r) ++ plain_tracked before r item (Some key)
        of_tracked item key found tracked =
            let touch : Touch = touch_found most_here (touches way before) key in
            let pushed : touches way (before ++ r ∷ []) ≡ key ∷ touches way before =
            touches-push way before r
            ∙ ap (λ (o : Option RecordItem). option_to_list (option_and_then (item_key way) o) ++ touches way before) found
            ∙ ap (λ (o : Option Key). option_to_list o ++ touches way before) tracked in
            let room_here : Room most_here (key ∷ touches way before) = subst (Room most_here) pushed room in
            let here : is_touched (touches way (before ++ r ∷ [])) key ≡ true =
            ap (λ (keys : List Key). is_touched keys key) pushed
            ∙ ap (λ (b : Bool). b || is_touched (touches way before) key) (same_key-self key) in
            let flow_is : touch.flow ≡ flow_number most_here (touches way (before ++ r ∷ [])) key =
            ap (λ (keys : List Key). flow_number most_here keys key) (sym pushed) in
            let own : map nameless (filter (of_number d touch.flow) earlier) ≡ trail (of_key way key) before =
            ap (λ (n : ℕ). map nameless (filter (of_number d n) earlier)) flow_is
            ∙ flow-of_key way (before ++ r ∷ []) room key here before (r ∷ []) refl in
            let last : (number : ℕ) (more : List Job)
            → Passed more
            → given number (earlier ++ more) (flow_packet way time item touch.flow ∷ []) ≡
            plain_tracked before r item (Some key) =
            λ (number : ℕ) (more : List Job) (passed : Passed more).
            let kept : map nameless (filter (of_number d touch.flow) (earlier ++ more)) ≡ trail (of_key way key) before =
            ap (map nameless) (filter-append (of_number d touch.flow) earlier more
            ∙ ap (λ (js : List Job). filter (of_number d touch.flow) earlier ++ js) (passed touch.flow)
            ∙ append-nil (filter (of_number d touch.flow) earlier))
            ∙ own in
            append-nil (items_of_job d (earlier ++ more)
            (record { number = number; moment = moment; work = flow_packet way time item touch.flow }))
            ∙ packet-items d way time moment item number touch.flow (earlier ++ more) (trail (of_key way key) before) kept in
            ap (λ (o : Option ℕ). given (job_count way before) earlier
            (option_to_list (option_map (λ flow. work.Finish flow) o) ++
            (option_to_list (option_map alone (fragment_item way r)) ++ (flow_packet way time item touch.flow ∷ []))))
            (none-ended most_here key (touches way before) room_here)
            ∙ after_fragment (fragment_item way r) (flow_packet way time item touch.flow ∷ [])
            (plain_tracked before r item (Some key)) last

        by_key : (item : RecordItem) (at : Option Key) → packet_in way before r ≡ Some item → item_key way item ≡ at
            → given (job_count way before) earlier (works_by way time (option_map (touch_found most_here (touches way before)) at) (fragment_item way r) (Some item))
            ≡ plain_fragment r (fragment_item way r) ++ plain_tracked before r item at
        by_key item None found tracked =
            after_fragment (fragment_item way r) (alone item ∷ []) (plain_tracked before r item None)
            (λ number more passed. append-nil (items_of_job d (earlier ++ more) (record { number = number; moment = moment; work = alone item })) ∙ alone-items d (earlier ++ more) number moment item)
        by_key item (Some key) found tracked = of_tracked item key found tracked

        by_packet : (packet : Option RecordItem) → packet_in way before r ≡ packet → Told (packet_in way before r)
        by_packet None found = subst Told (sym found) (after_fragment (fragment_item way r) [] [] (λ number more passed. refl))
        by_packet (Some item) found = subst Told (sym found) (by_key item (item_key way item) found refl)
