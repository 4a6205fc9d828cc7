-- The items of a record of a part are those that it has in the whole capture.
use Rattle.std.proofs.Common.{◌≡◌, Bool, true, false, cond, List, [], ◌∷◌, ◌++◌, Option, Some, None, unwrap_or, refl, sym, ap, subst, ◌∙◌, ◌⊎◌, inl, inr, append-nil}
use Rattle.std.specs.List.{filter}
use Rattle.std.proofs.lemmas.Bool.{false≢true}
use Rattle.std.proofs.lemmas.List.Elements.{filter-append}
use Rattle.edge_io.specs.Along.{trail}
use Rattle.edge_io.specs.declared.address.Addr.{Addr}
use Rattle.edge_io.specs.declared.moment.Moment.{Moment}
use Rattle.packet_decode.specs.declared.packet.Body.{Body}
use Rattle.packet_decode.specs.declared.packet.Body.TheVariants as body
use Rattle.packet_decode.specs.declared.packet.IpHead.{IpHead}
use Rattle.conf_types.specs.declared.config.StreamConfig.{StreamConfig}
use Rattle.stream5_sessions.specs.declared.key.End.{End}
use Rattle.stream5_sessions.specs.declared.key.Key.{Key}
use Rattle.stream5_sessions.specs.Keys.{is_end_before, key_of, same_key}
use Rattle.stream5_sessions.proofs.KeyLaws.{same_key-is}
use Rattle.flow_lanes.specs.declared.answer.Hits.{Hits}
use Rattle.flow_lanes.specs.declared.job.Job.{Job}
use Rattle.flow_lanes.specs.Flows.{Detection}
use Rattle.record_jobs.specs.declared.item.RecordItem.{RecordItem}
use Rattle.record_jobs.specs.declared.time.Time.{Time}
use Rattle.record_jobs.specs.Jobs.{begin_of, time_of}
use Rattle.record_jobs.specs.Packets.{fragment_item, packet_in}
use Rattle.record_jobs.specs.Touches.{item_key, tracked_key}
use Rattle.record_jobs.specs.Way.{LinkedRecord, Way}
use Rattle.record_jobs.proofs.Growth.{trail-push}
use Rattle.record_jobs.specs.Splitting.{AreOfOnePair, IsByPair, Part}
use Rattle.record_jobs.proofs.Splits.Ends.{packet-between}
use Rattle.record_jobs.proofs.Splits.Jobs.{along_all, after, of_key, own_packet, own_tracked, packet_job, plain_fragment, plain_items, plain_packet, plain_tracked}

-- ---- keys and pairs of addresses

some_same : {A : Type 0} (x y : A) → Some x ≡ Some y → x ≡ y
some_same x y is = cc

-- a key is between these two addresses
abbrev IsBetween : Key → Addr → Addr → Type 0
IsBetween key a b = ((key.low.addr ≡ a) × (key.high.addr ≡ b)) ⊎ ((key.low.addr ≡ b) × (key.high.addr ≡ a))

key-between : (tcp : Bool) (a b : End) → IsBetween (key_of tcp a b) a.addr b.addr
unfolding key_of
key-between tcp a b = by_order (is_end_before b a)
  where
    by_order : (before : Bool) → IsBetween (cond before (record { tcp = tcp; low = b; high = a }) (record { tcp = tcp; low = a; high = b })) a.addr b.addr
    by_order true = inr (refl, refl)
    by_order false = inl (refl, refl)

pub tracked-between : (stream : StreamConfig) (ip : IpHead) (carried : Body) (key : Key) → tracked_key stream ip carried ≡ Some key → IsBetween key ip.src ip.dst
unfolding tracked_key
tracked-between stream ip (body.Tcp head) key is = by_tcp stream.tcp is
  where
    by_tcp : (b : Bool) → cond b (Some (key_of true (record { addr = ip.src; port = head.sport }) (record { addr = ip.dst; port = head.dport }))) None ≡ Some key → IsBetween key ip.src ip.dst
    by_tcp true is =
        subst (λ (k : Key). IsBetween k ip.src ip.dst) (some_same (key_of true (record { addr = ip.src; port = head.sport }) (record { addr = ip.dst; port = head.dport })) key is)
        (key-between true (record { addr = ip.src; port = head.sport }) (record { addr = ip.dst; port = head.dport }))
    by_tcp false is = absurd cc
tracked-between stream ip (body.Udp sport dport) key is = by_udp stream.udp is
  where
    by_udp : (b : Bool) → cond b (Some (key_of false (record { addr = ip.src; port = sport }) (record { addr = ip.dst; port = dport }))) None ≡ Some key → IsBetween key ip.src ip.dst
    by_udp true is =
        subst (λ (k : Key). IsBetween k ip.src ip.dst) (some_same (key_of false (record { addr = ip.src; port = sport }) (record { addr = ip.dst; port = dport })) key is)
        (key-between false (record { addr = ip.src; port = sport }) (record { addr = ip.dst; port = dport }))
    by_udp false is = absurd cc
tracked-between stream ip (body.Icmp kind code id seq) key is = absurd cc
tracked-between stream ip body.Other key is = absurd cc
tracked-between stream ip body.Fragment key is = absurd cc
tracked-between stream ip (body.Stream from more) key is = absurd cc

-- two packets of one key go between one pair of addresses
one-pair : (key : Key) (a b : IpHead) → IsBetween key a.src a.dst → IsBetween key b.src b.dst → AreOfOnePair a b
one-pair key a b (inl (low, high)) (inl (low_too, high_too)) = inl (sym low ∙ low_too, sym high ∙ high_too)
one-pair key a b (inl (low, high)) (inr (low_too, high_too)) = inr (sym low ∙ low_too, sym high ∙ high_too)
one-pair key a b (inr (low, high)) (inl (low_too, high_too)) = inr (sym high ∙ high_too, sym low ∙ low_too)
one-pair key a b (inr (low, high)) (inr (low_too, high_too)) = inl (sym high ∙ high_too, sym low ∙ low_too)

-- packets with the addresses of two that go between one pair go between one pair
same-pair : (a b c e : IpHead) → AreOfOnePair a b → (a.src ≡ c.src) × (a.dst ≡ c.dst) → (b.src ≡ e.src) × (b.dst ≡ e.dst) → AreOfOnePair c e
same-pair a b c e (inl (src, dst)) first second = inl (sym first.0 ∙ src ∙ second.0, sym first.1 ∙ dst ∙ second.1)
same-pair a b c e (inr (src, dst)) first second = inr (sym first.0 ∙ src ∙ second.1, sym first.1 ∙ dst ∙ second.0)

-- ---- the first moment

begin-first : (before : List LinkedRecord) (r : LinkedRecord) (rest : List LinkedRecord) → begin_of (before ++ r ∷ rest) ≡ Some (unwrap_or (begin_of before) r.captured.moment)
begin-first [] r rest = refl
begin-first (first ∷ later) r rest = refl

pub filter-kept : {X : Type 0} (test : X → Bool) (before : List X) (x : X) (rest : List X) → test x ≡ true → filter test (before ++ x ∷ rest) ≡ filter test before ++ x ∷ filter test rest
filter-kept test before x rest is = filter-append test before (x ∷ rest) ∙ ap (λ (b : Bool). filter test before ++ cond b (x ∷ filter test rest) (filter test rest)) is

pub filter-left : {X : Type 0} (test : X → Bool) (before : List X) (x : X) → test x ≡ false → filter test (before ++ x ∷ []) ≡ filter test before
filter-left test before x isnt = filter-append test before (x ∷ []) ∙ ap (λ (b : Bool). filter test before ++ cond b (x ∷ []) []) isnt ∙ append-nil (filter test before)

abbrev time_from : Moment → LinkedRecord → Time
time_from first r = record { first = first; now = r.captured.moment }

pub same-time : (part : Part) (records before : List LinkedRecord) (r : LinkedRecord) (rest : List LinkedRecord) → begin_of (filter part records) ≡ begin_of records
    → before ++ r ∷ rest ≡ records → part r ≡ true → time_of (filter part before) r ≡ time_of before r
same-time part records before r rest start are of =
    let own : begin_of (filter part records) ≡ Some (unwrap_or (begin_of (filter part before)) r.captured.moment) =
    ap (λ (rs : List LinkedRecord). begin_of (filter part rs)) (sym are) ∙ ap begin_of (filter-kept part before r rest of) ∙ begin-first (filter part before) r (filter part rest) in
    let all : begin_of records ≡ Some (unwrap_or (begin_of before) r.captured.moment) = ap begin_of (sym are) ∙ begin-first before r rest in
    let same : unwrap_or (begin_of (filter part before)) r.captured.moment ≡ unwrap_or (begin_of before) r.captured.moment =
    some_same (unwrap_or (begin_of (filter part before)) r.captured.moment) (unwrap_or (begin_of before) r.captured.moment) (sym own ∙ start ∙ all) in
    ap (λ (first : Moment). time_from first r) same

-- ---- items
module _ (way : Way) (part : Part) (records : List LinkedRecord) (by_pair : IsByPair way part) (start : begin_of (filter part records) ≡ begin_of records)
    (packets : (before : List LinkedRecord) (r : LinkedRecord) (rest : List LinkedRecord) → before ++ r ∷ rest ≡ records → part r ≡ true
    → packet_in way (filter part before) r ≡ packet_in way before r) where
  -- two records that have packets of one key are of one part
  one-part : (key : Key) (one other : List LinkedRecord) (r s : LinkedRecord) (item more : RecordItem) → packet_in way one r ≡ Some item → packet_in way other s ≡ Some more
      → item_key way item ≡ Some key → item_key way more ≡ Some key → part r ≡ part s
  one-part key one other r s item more found found_too tracked tracked_too =
      let ends = packet-between way one r item found in
      let ends_too = packet-between way other s more found_too in
      let pair = one-pair key item.head.ip more.head.ip (tracked-between way.stream item.head.ip item.head.body key tracked) (tracked-between way.stream more.head.ip more.head.body key tracked_too) in
      by_pair r s ends.fields ends_too.fields ends.is ends_too.is
      (same-pair item.head.ip more.head.ip ends.fields.ip ends_too.fields.ip pair (ends.src, ends.dst) (ends_too.src, ends_too.dst))

  -- where each record that has a packet of a key is of the part
  module _ (key : Key) (owns : (earlier : List LinkedRecord) (s : LinkedRecord) (item : RecordItem) → packet_in way earlier s ≡ Some item → item_key way item ≡ Some key → part s ≡ true) where
    -- a record of another part has no packet of the key
    apart : (earlier : List LinkedRecord) (s : LinkedRecord) → part s ≡ false → of_key way key earlier s ≡ []
    apart earlier s isnt = by_packet (packet_in way earlier s) refl
      where
        time : Time
        time = time_of earlier s

        by_same : (more : RecordItem) (other : Key) → packet_in way earlier s ≡ Some more → item_key way more ≡ Some other → (b : Bool) → same_key key other ≡ b
            → own_tracked way (time_of earlier s) s.captured.moment key more (Some other) ≡ []
        by_same more other there at true same =
            absurd (false≢true (sym isnt ∙ owns earlier s more there (at ∙ ap Some (sym (same_key-is key other same)))))
        by_same more other there at false differs = rw differs refl

        by_key : (more : RecordItem) (at : Option Key) → packet_in way earlier s ≡ Some more → item_key way more ≡ at → own_tracked way (time_of earlier s) s.captured.moment key more at ≡ []
        by_key more None there at = refl
        by_key more (Some other) there at = by_same more other there at (same_key key other) refl

        by_packet : (packet : Option RecordItem) → packet_in way earlier s ≡ packet → own_packet way (time_of earlier s) s.captured.moment key (packet_in way earlier s) ≡ []
        by_packet None there = subst (λ (o : Option RecordItem). own_packet way (time_of earlier s) s.captured.moment key o ≡ []) (sym there) refl
        by_packet (Some more) there = subst (λ (o : Option RecordItem). own_packet way (time_of earlier s) s.captured.moment key o ≡ []) (sym there) (by_key more (item_key way more) there refl)

    -- the part has all packets of the key
    pub same-key_packets : (before rest : List LinkedRecord) → before ++ rest ≡ records → trail (of_key way key) (filter part before) ≡ trail (of_key way key) before
    same-key_packets = along_all Same records refl step
      where
        Same : List LinkedRecord → Type 0
        Same earlier = trail (of_key way key) (filter part earlier) ≡ trail (of_key way key) earlier

        step : (earlier : List LinkedRecord) (s : LinkedRecord) (more : List LinkedRecord) → earlier ++ s ∷ more ≡ records → Same earlier → Same (earlier ++ s ∷ [])
        step earlier s more here same = by_part (part s) refl
          where
            by_part : (b : Bool) → part s ≡ b → Same (earlier ++ s ∷ [])
            by_part true is =
                let packet = packets earlier s more here is in
                let time = same-time part records earlier s more start here is in
                ap (trail (of_key way key)) (filter-kept part earlier s [] is)
                ∙ trail-push (of_key way key) (filter part earlier) s
                ∙ ap (λ (front : List Job). front ++ of_key way key (filter part earlier) s) same
                ∙ ap (λ (o : Option RecordItem). trail (of_key way key) earlier ++ own_packet way (time_of (filter part earlier) s) s.captured.moment key o) packet
                ∙ ap (λ (t : Time). trail (of_key way key) earlier ++ own_packet way t s.captured.moment key (packet_in way earlier s)) time
                ∙ sym (trail-push (of_key way key) earlier s)
            by_part false isnt =
                ap (trail (of_key way key)) (filter-left part earlier s isnt)
                ∙ same
                ∙ sym (append-nil (trail (of_key way key) earlier))
                ∙ ap (λ (back : List Job). trail (of_key way key) earlier ++ back) (sym (apart earlier s isnt))
                ∙ sym (trail-push (of_key way key) earlier s)

  -- a record of the part has the items that it has in the whole
  pub plain-same : (d : Detection) (before : List LinkedRecord) (r : LinkedRecord) (rest : List LinkedRecord) → before ++ r ∷ rest ≡ records → part r ≡ true
      → plain_items d way (filter part before) r ≡ plain_items d way before r
  plain-same d before r rest are of =
      ap (λ (o : Option RecordItem). plain_fragment d way r (fragment_item way r) ++ plain_packet d way (filter part before) r o) (packets before r rest are of)
      ∙ ap (λ (back : List Hits). plain_fragment d way r (fragment_item way r) ++ back) (by_packet (packet_in way before r) refl)
    where
      by_key : (item : RecordItem) (at : Option Key)
          → packet_in way before r ≡ Some item
          → item_key way item ≡ at
          → plain_tracked d way (filter part before) r item at ≡ plain_tracked d way before r item at
      by_key item None found tracked = refl
      by_key item (Some key) found tracked =
          let owns : (earlier : List LinkedRecord) (s : LinkedRecord) (more : RecordItem) → packet_in way earlier s ≡ Some more → item_key way more ≡ Some key → part s ≡ true =
          λ earlier s more there at. sym (one-part key before earlier r s item more found there tracked at) ∙ of in
          ap (λ (own : List Job). after d own (packet_job d way (time_of (filter part before) r) r.captured.moment item)) (same-key_packets key owns before (r ∷ rest) are)
          ∙ ap (λ (t : Time). after d (trail (of_key way key) before) (packet_job d way t r.captured.moment item)) (same-time part records before r rest start are of)

      by_packet : (packet : Option RecordItem) → packet_in way before r ≡ packet → plain_packet d way (filter part before) r packet ≡ plain_packet d way before r packet
      by_packet None found = refl
      by_packet (Some item) found = by_key item (item_key way item) found refl
