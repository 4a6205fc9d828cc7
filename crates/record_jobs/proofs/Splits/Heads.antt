-- The items of records, and those of flows that end, go between addresses that tell which part they are of.
use Rattle.std.proofs.Common.{◌≡◌, ℕ, Bool, true, false, cond, List, [], ◌∷◌, ◌++◌, Option, Some, None, Result, Ok, Err, refl, sym, ap, ap₂, ◌∙◌, inl, inr}
use Rattle.std.specs.List.{All}
use Rattle.std.specs.Option.{option_map}
use Rattle.std.proofs.lemmas.List.Elements.{All-append, All-cons, All-nil, All-weaker}
use Rattle.edge_io.specs.Along.{trail, trail_from}
use Rattle.edge_io.specs.declared.address.Addr.{Addr}
use Rattle.edge_io.specs.declared.moment.Moment.{Moment}
use Rattle.packet_decode.specs.declared.item.ItemKind.TheVariants as kind
use Rattle.packet_decode.specs.declared.packet.IpHead.{IpHead}
use Rattle.packet_decode.specs.declared.skip.Skip.{Skip}
use Rattle.packet_decode.specs.Decoding.{Fields}
use Rattle.stream5_sessions.specs.declared.key.Key.{Key}
use Rattle.stream5_sessions.specs.Keys.{same_key}
use Rattle.stream5_sessions.proofs.KeyLaws.{same_key-is}
use Rattle.flow_lanes.specs.declared.answer.Hits.{Hits}
use Rattle.flow_lanes.specs.declared.job.Job.{Job}
use Rattle.flow_lanes.specs.declared.job.Work.TheVariants as work
use Rattle.flow_lanes.specs.Flows.{Detection}
use Rattle.flow_lanes.proofs.Between.{AreEnds, HeadBetween, items_between}
use Rattle.flow_lanes.proofs.Heads.{OfHits, OfJob, OfWork}
use Rattle.record_jobs.specs.declared.item.RecordItem.{RecordItem}
use Rattle.record_jobs.specs.declared.time.Time.{Time}
use Rattle.record_jobs.specs.Jobs.{flow_packet, time_of}
use Rattle.record_jobs.specs.Packets.{fragment_fields, fragment_item, is_fragment, item_of, packet_in, said_by}
use Rattle.record_jobs.specs.Splitting.{IsOfPairs, Pairs, Part, is_between}
use Rattle.record_jobs.specs.Touches.{item_key}
use Rattle.record_jobs.specs.Way.{LinkedRecord, Way}
use Rattle.record_jobs.proofs.Splits.Ends.{packet-between}
use Rattle.record_jobs.proofs.Splits.Jobs.{alone_job, after, of_key, own_packet, own_tracked, packet_job, plain_fragment, plain_items, plain_packet, plain_tracked}
use Rattle.record_jobs.proofs.Splits.Parts.{tracked-between}

some_same : {A : Type 0} (x y : A) → Some x ≡ Some y → x ≡ y
some_same x y is = cc

-- of answers along a list, what holds of each
All-trail : {X A : Type 0} (P : A → Type 0) (f : List X → X → List A) → ((before : List X) (x : X) → All P (f before x)) → (before xs : List X) → All P (trail_from f before xs)
All-trail P f each before [] = All-nil P
All-trail P f each before (x ∷ xs) = All-append P (f before x) (trail_from f (before ++ x ∷ []) xs) (each before x) (All-trail P f each (before ++ x ∷ []) xs)

-- the end of a flow, without its number
abbrev pub finish_job : Moment → Job
finish_job moment = record { number = 0; moment = moment; work = work.Finish 0 }

-- ---- between which addresses

-- an item by itself goes between its own
alone-between : (d : Detection) (moment : Moment) (item : RecordItem) → All (OfHits (HeadBetween item.head.ip.src item.head.ip.dst)) (after d [] (alone_job d moment item))
alone-between d moment item =
    items_between item.head.ip.src item.head.ip.dst d [] (alone_job d moment item) (All-nil (OfJob (HeadBetween item.head.ip.src item.head.ip.dst))) (inl (refl, refl))

module _ (way : Way) (key : Key) where
  -- a job of a packet between the key's addresses
  abbrev OfKey : Job → Type 0
  OfKey = OfJob (HeadBetween key.low.addr key.high.addr)

  packet-of : (time : Time) (item : RecordItem) (flow : ℕ) → item_key way item ≡ Some key → OfWork (HeadBetween key.low.addr key.high.addr) (flow_packet way time item flow)
  unfolding flow_packet
  packet-of time item flow tracked = tracked-between way.stream item.head.ip item.head.body key tracked

  packets-of : (before : List LinkedRecord) (r : LinkedRecord) → All OfKey (of_key way key before r)
  packets-of before r = by_packet (packet_in way before r)
    where
      by_same : (item : RecordItem) (other : Key) → item_key way item ≡ Some other → (b : Bool) → same_key key other ≡ b
          → All OfKey (cond b (record { number = 0; moment = r.captured.moment; work = flow_packet way (time_of before r) item 0 } ∷ []) [])
      by_same item other tracked true same =
          All-cons OfKey (record { number = 0; moment = r.captured.moment; work = flow_packet way (time_of before r) item 0 }) []
          (packet-of (time_of before r) item 0 (tracked ∙ ap Some (sym (same_key-is key other same)))) (All-nil OfKey)
      by_same item other tracked false differs = All-nil OfKey

      by_key : (item : RecordItem) (at : Option Key) → item_key way item ≡ at → All OfKey (own_tracked way (time_of before r) r.captured.moment key item at)
      by_key item None tracked = All-nil OfKey
      by_key item (Some other) tracked = by_same item other tracked (same_key key other) refl

      by_packet : (packet : Option RecordItem) → All OfKey (own_packet way (time_of before r) r.captured.moment key packet)
      by_packet None = All-nil OfKey
      by_packet (Some item) = by_key item (item_key way item) refl

  all-packets : (records : List LinkedRecord) → All OfKey (trail (of_key way key) records)
  all-packets records = All-trail OfKey (of_key way key) packets-of [] records

  -- the items of a key's flow, of a packet and at the end
  tracked-items : (d : Detection) (before : List LinkedRecord) (time : Time) (moment : Moment) (item : RecordItem) → item_key way item ≡ Some key
      → All (OfHits (HeadBetween key.low.addr key.high.addr)) (after d (trail (of_key way key) before) (packet_job d way time moment item))
  tracked-items d before time moment item tracked =
      items_between key.low.addr key.high.addr d (trail (of_key way key) before) (packet_job d way time moment item) (all-packets before) (packet-of time item 0 tracked)

  pub finish-items : (d : Detection) (records : List LinkedRecord) (moment : Moment)
      → All (OfHits (HeadBetween key.low.addr key.high.addr)) (after d (trail (of_key way key) records) (finish_job moment))
  finish-items d records moment = items_between key.low.addr key.high.addr d (trail (of_key way key) records) (finish_job moment) (all-packets records) tt

-- ---- of which part
module _ (way : Way) (pairs : Pairs) (part : Part) (of_pairs : IsOfPairs way pairs part) where
  -- what goes between two addresses is of the part where their pair is
  pub ends-tell : (a b src dst : Addr) → AreEnds a b src dst → pairs src dst ≡ pairs a b
  ends-tell a b src dst (inl (one, other)) = ap₂ pairs (sym one) (sym other)
  ends-tell a b src dst (inr (one, other)) = ap₂ pairs (sym other) (sym one) ∙ of_pairs.either b a

  pub all-tell : (a b : Addr) (c : Bool) → pairs a b ≡ c → (items : List Hits) → All (OfHits (HeadBetween a b)) items → All (λ (hits : Hits). is_between pairs hits.head ≡ c) items
  all-tell a b c is items all =
      All-weaker (OfHits (HeadBetween a b)) (λ (hits : Hits). is_between pairs hits.head ≡ c) (λ hits between. ends-tell a b hits.head.ip.src hits.head.ip.dst between ∙ is) items all

  packet-tells : (before : List LinkedRecord) (r : LinkedRecord) (item : RecordItem) → packet_in way before r ≡ Some item → pairs item.head.ip.src item.head.ip.dst ≡ part r
  packet-tells before r item found =
      let between = packet-between way before r item found in
      ap₂ pairs between.src between.dst ∙ sym (of_pairs.read r between.fields between.is)

  pub key-tells : (before : List LinkedRecord) (r : LinkedRecord) (item : RecordItem) (key : Key) → packet_in way before r ≡ Some item → item_key way item ≡ Some key
      → pairs key.low.addr key.high.addr ≡ part r
  key-tells before r item key found tracked =
      sym (ends-tell key.low.addr key.high.addr item.head.ip.src item.head.ip.dst (tracked-between way.stream item.head.ip item.head.body key tracked))
      ∙ packet-tells before r item found

  fragment-tells : (r : LinkedRecord) (item : RecordItem) → fragment_item way r ≡ Some item → pairs item.head.ip.src item.head.ip.dst ≡ part r
  unfolding fragment_item
  fragment-tells r item found = by_said (said_by way r) refl found
    where
      by_fragment : (fields : Fields) (b : Bool) → said_by way r ≡ Ok fields → option_map (item_of kind.Fragment r.captured.moment) (cond b (Some fields) None) ≡ Some item
          → pairs item.head.ip.src item.head.ip.dst ≡ part r
      by_fragment fields true is found =
          let same : fields.ip ≡ item.head.ip = ap (λ (i : RecordItem). i.head.ip) (some_same (item_of kind.Fragment r.captured.moment fields) item found) in
          ap (λ (ip : IpHead). pairs ip.src ip.dst) (sym same) ∙ sym (of_pairs.read r fields is)
      by_fragment fields false is found = absurd cc

      by_said : (said : Result Fields Skip) → said_by way r ≡ said → option_map (item_of kind.Fragment r.captured.moment) (fragment_fields said) ≡ Some item
          → pairs item.head.ip.src item.head.ip.dst ≡ part r
      by_said (Err why) is found = absurd cc
      by_said (Ok fields) is found = by_fragment fields (is_fragment fields.body) is found

  -- the items of a record go between the pairs exactly where the record is of the part
  pub record-tells : (d : Detection) (before : List LinkedRecord) (r : LinkedRecord) → All (λ (hits : Hits). is_between pairs hits.head ≡ part r) (plain_items d way before r)
  record-tells d before r =
      All-append Tells (plain_fragment d way r (fragment_item way r)) (plain_packet d way before r (packet_in way before r))
      (by_fragment (fragment_item way r) refl) (by_packet (packet_in way before r) refl)
    where
      Tells : Hits → Type 0
      Tells hits = is_between pairs hits.head ≡ part r

      by_fragment : (fragment : Option RecordItem) → fragment_item way r ≡ fragment → All Tells (plain_fragment d way r fragment)
      by_fragment None found = All-nil Tells
      by_fragment (Some item) found =
          all-tell item.head.ip.src item.head.ip.dst (part r) (fragment-tells r item found) (after d [] (alone_job d r.captured.moment item)) (alone-between d r.captured.moment item)

      by_key : (item : RecordItem) (at : Option Key) → packet_in way before r ≡ Some item → item_key way item ≡ at → All Tells (plain_tracked d way before r item at)
      by_key item None found tracked =
          all-tell item.head.ip.src item.head.ip.dst (part r) (packet-tells before r item found) (after d [] (alone_job d r.captured.moment item)) (alone-between d r.captured.moment item)
      by_key item (Some key) found tracked =
          all-tell key.low.addr key.high.addr (part r) (key-tells before r item key found tracked)
          (after d (trail (of_key way key) before) (packet_job d way (time_of before r) r.captured.moment item))
          (tracked-items way key d before (time_of before r) r.captured.moment item tracked)

      by_packet : (packet : Option RecordItem) → packet_in way before r ≡ packet → All Tells (plain_packet d way before r packet)
      by_packet None found = All-nil Tells
      by_packet (Some item) found = by_key item (item_key way item) found refl
