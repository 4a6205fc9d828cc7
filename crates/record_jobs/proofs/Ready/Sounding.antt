-- Jobs of a capture are sound after the earlier jobs of their flows.
use Rattle.std.proofs.Common.{◌≡◌, ℕ, ◌+◌, ◌^◌, ◌<◌, ◌≤◌, Bool, true, false, cond, eqb, List, [], ◌∷◌, ◌++◌, length, Option, Some}
use Rattle.std.proofs.Common.{None, refl, sym, ap, ◌∙◌, subst, IfSome, append_assoc, arith, inl, inr, ◌⊎◌, ◌&&◌}
use Rattle.std.specs.Bool.{⊤}
use Rattle.std.specs.Prelude.{filter}
use Rattle.std.specs.Option.{option_map_or, option_to_list}
use Rattle.std.proofs.lemmas.Bool.{eq-eqb, eqb-true, false≢true}
use Rattle.std.proofs.lemmas.List.{append-nil}
use Rattle.std.proofs.lemmas.List.Elements.{filter-append}
use Rattle.std.proofs.lemmas.List.Sums.{fold_push}
use Rattle.edge_io.specs.declared.address.Addr.{Addr}
use Rattle.edge_io.specs.declared.moment.Moment.{Moment}
use Rattle.packet_decode.specs.declared.packet.Body.{Body}
use Rattle.packet_decode.specs.declared.packet.Body.TheVariants as body
use Rattle.packet_decode.specs.declared.packet.IpHead.{IpHead}
use Rattle.stream5_sessions.specs.declared.key.End.{End}
use Rattle.stream5_sessions.specs.declared.key.Key.{Key}
use Rattle.edge_io.proofs.Addresses.{same_addr-refl}
use Rattle.stream5_sessions.specs.Keys.{is_end_before, key_of, same_end}
use Rattle.stream5_sessions.specs.Phases.{segment_of}
use Rattle.stream5_sessions.proofs.KeyLaws.{end_is}
use Rattle.flow_lanes.specs.declared.job.Job.{Job}
use Rattle.flow_lanes.specs.declared.job.Work.TheVariants as work
use Rattle.flow_lanes.specs.Flows.{same_flow}
use Rattle.flow_lanes.specs.Sessions.{Packet, is_tcp, receiver, sender, toward}
use Rattle.flow_lanes.specs.declared.facts.EndWay.{EndWay}
use Rattle.flow_lanes.specs.declared.facts.FlowEnds.{FlowEnds}
use Rattle.flow_lanes.specs.declared.facts.FlowFacts.{FlowFacts}
use Rattle.flow_lanes.specs.Sound.{HasSessions, IsSoundFor, IsSoundPacket, ends_of, facts_after, facts_after_one, key_of_packet, way_of}
use Rattle.flow_lanes.specs.LanesAfter.{is_of_flow}
use Rattle.record_jobs.specs.declared.item.RecordItem.{RecordItem}
use Rattle.record_jobs.specs.declared.time.Time.{Time}
use Rattle.record_jobs.specs.Jobs.{alone, flow_packet, numbered}
use Rattle.record_jobs.specs.Touches.{item_key, key_between, most_flows, tracked_key}
use Rattle.record_jobs.specs.Way.{Way, stream_place, stream_preference_at, toward_address}
use Rattle.record_jobs.proofs.Ways.Bound.{stream_place-within}
use Rattle.record_jobs.proofs.Ready.Knowing.{HadFlow, had_apart, number_at}

-- ---- what goes by the ends of a flow depends on its key alone

-- what goes by an address
abbrev way_at : Way → Addr → EndWay
way_at way addr = record { engine = stream_place way.stream.engines addr; preference = stream_preference_at way addr }

abbrev pub ends_at : Way → Key → FlowEnds
ends_at way key = record { key = key; low = way_at way key.low.addr; high = way_at way key.high.addr }

-- a packet of a flow, as its job has it
abbrev pub packet_of : Way → Time → RecordItem → Packet
packet_of way time item = record {
  head = item.head;
  payload = item.payload;
  moment = time.now;
  to_dst = toward_address way (is_tcp item.head.body) time item.head.ip.dst;
  to_src = toward_address way (is_tcp item.head.body) time item.head.ip.src;
}

toward-way : (way : Way) (tcp : Bool) (time : Time) (addr : Addr) → way_of (toward_address way tcp time addr) ≡ way_at way addr
unfolding toward_address
toward-way way tcp time addr = refl

same_end-self : (end : End) → same_end end end ≡ true
same_end-self end = ap (λ b. b && eqb end.port end.port) (same_addr-refl end.addr) ∙ eq-eqb end.port end.port refl

-- what goes by either end of a packet
toward_end : (way : Way) (time : Time) (item : RecordItem) (end : End)
    → (end ≡ sender (packet_of way time item)) ⊎ (end ≡ receiver (packet_of way time item))
    → (sender (packet_of way time item)).addr ≡ item.head.ip.src → (receiver (packet_of way time item)).addr ≡ item.head.ip.dst
    → way_of (toward (packet_of way time item) end) ≡ way_at way end.addr
toward_end way time item end is from to = go (same_end end (receiver p)) refl is
  where
    p : Packet
    p = packet_of way time item

    go : (b : Bool) → same_end end (receiver p) ≡ b → (end ≡ sender p) ⊎ (end ≡ receiver p) → way_of (cond b p.to_dst p.to_src) ≡ way_at way end.addr
    go true same is = toward-way way (is_tcp item.head.body) time item.head.ip.dst ∙ ap (way_at way) (sym (ap (λ (e : End). e.addr) (end_is end (receiver p) same) ∙ to))
    go false same (inl is) = toward-way way (is_tcp item.head.body) time item.head.ip.src ∙ ap (way_at way) (sym (ap (λ (e : End). e.addr) is ∙ from))
    go false same (inr is) = absurd (false≢true (sym same ∙ ap (λ (e : End). same_end e (receiver p)) is ∙ same_end-self (receiver p)))

-- the ends of a packet have its addresses
sender_addr : (ip : IpHead) (carried : Body) (len : ℕ) (moment : Moment) → (segment_of ip carried len moment).sender.addr ≡ ip.src
sender_addr ip (body.Tcp head) len moment = refl
sender_addr ip (body.Udp sport dport) len moment = refl
sender_addr ip _ len moment = refl

receiver_addr : (ip : IpHead) (carried : Body) (len : ℕ) (moment : Moment) → (segment_of ip carried len moment).receiver.addr ≡ ip.dst
receiver_addr ip (body.Tcp head) len moment = refl
receiver_addr ip (body.Udp sport dport) len moment = refl
receiver_addr ip _ len moment = refl

-- a key has the two ends that it was made of
low_is : (tcp : Bool) (a b : End) → ((key_of tcp a b).low ≡ a) ⊎ ((key_of tcp a b).low ≡ b)
unfolding key_of
low_is tcp a b = go (is_end_before b a)
  where
    go : (before : Bool)
        → ((cond {A = Key} before (record { tcp = tcp; low = b; high = a }) (record { tcp = tcp; low = a; high = b })).low ≡ a) ⊎
        ((cond {A = Key} before (record { tcp = tcp; low = b; high = a }) (record { tcp = tcp; low = a; high = b })).low ≡ b)
    go true = inr refl
    go false = inl refl

high_is : (tcp : Bool) (a b : End) → ((key_of tcp a b).high ≡ a) ⊎ ((key_of tcp a b).high ≡ b)
unfolding key_of
high_is tcp a b = go (is_end_before b a)
  where
    go : (before : Bool)
        → ((cond {A = Key} before (record { tcp = tcp; low = b; high = a }) (record { tcp = tcp; low = a; high = b })).high ≡ a) ⊎
        ((cond {A = Key} before (record { tcp = tcp; low = b; high = a }) (record { tcp = tcp; low = a; high = b })).high ≡ b)
    go true = inl refl
    go false = inr refl

-- the key of a packet whose protocol is tracked is that of its ends
tracked_is : (way : Way) (ip : IpHead) (carried : Body) (len : ℕ) (moment : Moment) (key : Key) → tracked_key way.stream ip carried ≡ Some key
    → (key ≡ key_of (is_tcp carried) (segment_of ip carried len moment).sender (segment_of ip carried len moment).receiver) × HasSessions carried
unfolding tracked_key
tracked_is way ip (body.Tcp head) len moment key e = go way.stream.tcp e
  where
    go : (b : Bool) → cond b (Some (key_between true ip head.sport head.dport)) None ≡ Some key → (key ≡ key_between true ip head.sport head.dport) × ⊤
    go true e = (let is : key ≡ key_between true ip head.sport head.dport = cc in is, tt)
    go false e = cc
tracked_is way ip (body.Udp sport dport) len moment key e = go way.stream.udp e
  where
    go : (b : Bool) → cond b (Some (key_between false ip sport dport)) None ≡ Some key → (key ≡ key_between false ip sport dport) × ⊤
    go true e = (let is : key ≡ key_between false ip sport dport = cc in is, tt)
    go false e = cc
tracked_is way ip (body.Icmp kind code id seq) len moment key e = cc
tracked_is way ip body.Other len moment key e = cc
tracked_is way ip body.Fragment len moment key e = cc
tracked_is way ip (body.Stream sport dport) len moment key e = cc

-- the ends of a packet are those of its key
ends_are : (way : Way) (time : Time) (item : RecordItem) (key : Key) → item_key way item ≡ Some key → ends_of (packet_of way time item) ≡ ends_at way key
ends_are way time item key e =
    ap (λ (w : EndWay). made (key_of_packet p) w (way_of (toward p (key_of_packet p).high)))
    (toward_end way time item (key_of_packet p).low (low_is (is_tcp item.head.body) (sender p) (receiver p)) from to)
    ∙ ap (made (key_of_packet p) (way_at way (key_of_packet p).low.addr))
    (toward_end way time item (key_of_packet p).high (high_is (is_tcp item.head.body) (sender p) (receiver p)) from to)
    ∙ ap (ends_at way) (sym (tracked_is way item.head.ip item.head.body (length item.payload) time.now key e).0)
  where
    p : Packet
    p = packet_of way time item

    made : Key → EndWay → EndWay → FlowEnds
    made key low high = record { key = key; low = low; high = high }

    from : (sender p).addr ≡ item.head.ip.src
    from = sender_addr item.head.ip item.head.body (length item.payload) time.now

    to : (receiver p).addr ≡ item.head.ip.dst
    to = receiver_addr item.head.ip item.head.body (length item.payload) time.now

-- ---- what is known of each flow

-- what is known of the flow of a key: the ends are the key's, and there were at most `packets` packets
pub record KnowsFlow (way : Way) (touches : List Key) (packets flow : ℕ) (facts : FlowFacts) : Type 0 where
  pub key : Key
  pub had : HadFlow (most_flows way.stream) touches key flow
  pub ends : facts.ends ≡ ends_at way key
  pub few : facts.packets ≤ packets

abbrev Knows : Way → List Key → ℕ → ℕ → Option FlowFacts → Type 0
Knows way touches packets flow None = ⊤
Knows way touches packets flow (Some facts) = KnowsFlow way touches packets flow facts

-- what is known of a flow after these jobs
abbrev pub known : List Job → ℕ → Option FlowFacts
known jobs flow = facts_after None (filter (is_of_flow flow) jobs)

-- what is known of each flow after these jobs
abbrev pub KnowsAll : Way → List Key → ℕ → List Job → Type 0
KnowsAll way touches packets jobs = (flow : ℕ) → Knows way touches packets flow (known jobs flow)

known-push : (jobs : List Job) (job : Job) (flow : ℕ) → known (jobs ++ job ∷ []) flow ≡ cond (is_of_flow flow job) (facts_after_one (known jobs flow) job) (known jobs flow)
known-push jobs job flow =
    ap (facts_after None) (filter-append (is_of_flow flow) jobs (job ∷ []))
    ∙ go (is_of_flow flow job)
  where
    front : List Job
    front = filter (is_of_flow flow) jobs

    go : (b : Bool) → facts_after None (front ++ cond b (job ∷ []) []) ≡ cond b (facts_after_one (facts_after None front) job) (facts_after None front)
    go true = fold_push facts_after_one None front job
    go false = ap (facts_after None) (append-nil front)

-- one touch more, perhaps, and one packet more
later_knows : (way : Way) (key : Option Key) (touches : List Key) (packets flow : ℕ) (facts : Option FlowFacts)
    → Knows way touches packets flow facts
    → Knows way (option_to_list key ++ touches) (packets + 1) flow facts
later_knows way key touches packets flow None knows = tt
later_knows way None touches packets flow (Some facts) knows = record { key = knows.key; had = knows.had; ends = knows.ends; few = omega (arith, knows.few) }
later_knows way (Some touch) touches packets flow (Some facts) knows = record { key = knows.key; had = inr knows.had; ends = knows.ends; few = omega (arith, knows.few) }

pub later_all : (way : Way) (key : Option Key) (touches : List Key) (packets : ℕ) (jobs : List Job)
    → KnowsAll way touches packets jobs
    → KnowsAll way (option_to_list key ++ touches) (packets + 1) jobs
later_all way key touches packets jobs knows flow = later_knows way key touches packets flow (known jobs flow) (knows flow)

-- ---- jobs one by one

-- each of these jobs is sound after the earlier ones
abbrev pub Sounds : ℕ → List Job → List Job → Type 0
Sounds engines earlier [] = ⊤
Sounds engines earlier (job ∷ jobs) = IsSoundFor engines (facts_after None (filter (same_flow job) earlier)) job × Sounds engines (earlier ++ job ∷ []) jobs

pub Sounds-append : (engines : ℕ) (earlier xs ys : List Job) → Sounds engines earlier xs → Sounds engines (earlier ++ xs) ys → Sounds engines earlier (xs ++ ys)
Sounds-append engines earlier [] ys first then = subst (λ (front : List Job). Sounds engines front ys) (append-nil earlier) then
Sounds-append engines earlier (x ∷ xs) ys first then =
    (first.0, Sounds-append engines (earlier ++ x ∷ []) xs ys first.1 (subst (λ (front : List Job). Sounds engines front ys) (sym (append_assoc earlier (x ∷ []) xs)) then))

-- jobs are sound, and what is known after them
pub record Goes (way : Way) (touches : List Key) (packets : ℕ) (earlier jobs : List Job) : Type 0 where
  pub sounds : Sounds (length way.stream.engines) earlier jobs
  pub knows : KnowsAll way touches packets (earlier ++ jobs)

pub Goes-append : (way : Way) (touches later : List Key) (packets more : ℕ) (earlier xs ys : List Job)
    → Goes way touches packets earlier xs
    → Goes way later more (earlier ++ xs) ys
    → Goes way later more earlier (xs ++ ys)
Goes-append way touches later packets more earlier xs ys first then = record {
  sounds = Sounds-append (length way.stream.engines) earlier xs ys first.sounds then.sounds;
  knows = subst (KnowsAll way later more) (append_assoc earlier xs ys) then.knows;
}

pub no_job : (way : Way) (touches : List Key) (packets : ℕ) (earlier : List Job) → KnowsAll way touches packets earlier → Goes way touches packets earlier []
no_job way touches packets earlier knows = record { sounds = tt; knows = subst (KnowsAll way touches packets) (sym (append-nil earlier)) knows }

pub alone_job : (way : Way) (touches : List Key) (packets : ℕ) (earlier : List Job) (number : ℕ) (moment : Moment) (item : RecordItem)
    → KnowsAll way touches packets earlier
    → Goes way touches packets earlier (numbered number moment (alone item ∷ []))
alone_job way touches packets earlier number moment item knows = record {
  sounds = (tt, tt);
  knows = λ flow. subst (Knows way touches packets flow) (sym (known-push earlier (record { number = number; moment = moment; work = alone item }) flow)) (knows flow);
}

pub finish_job : (way : Way) (touches : List Key) (packets : ℕ) (earlier : List Job) (number : ℕ) (moment : Moment) (ended : ℕ)
    → KnowsAll way touches packets earlier
    → Goes way touches packets earlier (numbered number moment (work.Finish ended ∷ []))
finish_job way touches packets earlier number moment ended knows = record {
  sounds = (tt, tt);
  knows = λ flow. subst (Knows way touches packets flow) (sym (known-push earlier (record { number = number; moment = moment; work = work.Finish ended }) flow)) (go flow (eqb flow ended));
}
  where
    go : (flow : ℕ) (b : Bool) → Knows way touches packets flow (cond b None (known earlier flow))
    go flow true = tt
    go flow false = knows flow

-- a packet of the flow that its touch has
pub packet_job : (way : Way) (touches : List Key) (packets : ℕ) (earlier : List Job) (number : ℕ) (time : Time) (item : RecordItem) (key : Key) (flow : ℕ)
    → KnowsAll way touches packets earlier → item_key way item ≡ Some key → flow ≡ number_at (most_flows way.stream) touches key → packets < 2 ^ 32 → length item.payload ≤ 65535
    → Goes way (key ∷ touches) (packets + 1) earlier (numbered number time.now (flow_packet way time item flow ∷ []))
unfolding flow_packet toward_address
packet_job way touches packets earlier number time item key flow knows keyed numbered_so few size = record { sounds = (sound, tt); knows = after }
  where
    p : Packet
    p = packet_of way time item

    job : Job
    job = record { number = number; moment = time.now; work = flow_packet way time item flow }

    touches_now : List Key
    touches_now = key ∷ touches

    had : HadFlow (most_flows way.stream) touches_now key flow
    had = inl (refl, numbered_so)

    ends : ends_of p ≡ ends_at way key
    ends = ends_are way time item key keyed

    same : (o : Option FlowFacts) → Knows way touches packets flow o → IfSome o (λ (f : FlowFacts). f.ends ≡ ends_of p)
    same None know = tt
    same (Some facts) know =
        know.ends ∙ ap (ends_at way) (had_apart (most_flows way.stream) touches_now know.key key flow (inr know.had) had) ∙ sym ends

    bound : (o : Option FlowFacts) → Knows way touches packets flow o → IfSome o (λ (f : FlowFacts). f.packets < 2 ^ 32)
    bound None know = tt
    bound (Some facts) know = omega (arith, know.few, few)

    sound : IsSoundPacket (length way.stream.engines) (known earlier flow) p
    sound = record {
      protocol = (tracked_is way item.head.ip item.head.body (length item.payload) time.now key keyed).1;
      same_ends = same (known earlier flow) (knows flow);
      few = bound (known earlier flow) (knows flow);
      size = size;
      to_dst = stream_place-within way.stream.engines item.head.ip.dst;
      to_src = stream_place-within way.stream.engines item.head.ip.src;
    }

    more : (o : Option FlowFacts) → Knows way touches packets flow o → option_map_or (λ (f : FlowFacts). f.packets + 1) o 1 ≤ packets + 1
    more None know = omega arith
    more (Some facts) know = omega (arith, know.few)

    own : KnowsFlow way touches_now (packets + 1) flow (record { ends = ends_of p; packets = option_map_or (λ (f : FlowFacts). f.packets + 1) (known earlier flow) 1 })
    own = record { key = key; had = had; ends = ends; few = more (known earlier flow) (knows flow) }

    go : (other : ℕ) (b : Bool) → eqb other flow ≡ b → Knows way touches_now (packets + 1) other (cond b (facts_after_one (known earlier other) job) (known earlier other))
    go other true is = subst (λ (n : ℕ). Knows way touches_now (packets + 1) n (facts_after_one (known earlier n) job)) (sym (eqb-true other flow is)) own
    go other false is = later_knows way (Some key) touches packets other (known earlier other) (knows other)

    after : KnowsAll way touches_now (packets + 1) (earlier ++ job ∷ [])
    after other = subst (Knows way touches_now (packets + 1) other) (sym (known-push earlier job other)) (go other (eqb other flow) refl)
