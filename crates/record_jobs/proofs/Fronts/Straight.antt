-- What a front does for a record is what the definitions say of it; for a packet of version 4 that is no fragment,
-- where it was read.
use Rattle.std.proofs.Common.{◌≡◌, ℕ, ◌+◌, ◌≤◌, Bool, true, false, cond, List, length, Option, Some, None, Result, Ok, refl, sym, ap, ◌∙◌, subst, arith, IfSome}
use Rattle.std.specs.Int.{from_bool}
use Rattle.std.specs.Option.{option_map_or}
use Rattle.edge_io.specs.declared.moment.Moment.{Moment}
use Rattle.packet_decode.specs.declared.item.ItemKind.TheVariants as kind
use Rattle.packet_decode.specs.declared.placed.Placed.{Placed}
use Rattle.packet_decode.specs.declared.skip.Skip.{Skip}
use Rattle.packet_decode.specs.Decoding.{Fields, decoded, fields_at, placed}
use Rattle.ipv6_decode.specs.Decoding6.{decoded6}
use Rattle.ipv6_decode.specs.Versions.{record_decoded, unless_other}
use Rattle.frag3_core.specs.Trackers.{Frag3State}
use Rattle.stream5_sessions.specs.declared.flows.Touch.{Touch}
use Rattle.flow_lanes.specs.declared.job.Job.{Job}
use Rattle.record_jobs.specs.declared.counts.RecordCounts.{RecordCounts}
use Rattle.record_jobs.specs.declared.content.RecordContent.{RecordContent}
use Rattle.record_jobs.specs.Fronts.{FrontState}
use Rattle.record_jobs.specs.Jobs.{time_by, works_by}
use Rattle.record_jobs.specs.Packets.{datagram_from, is_fragment, item_of, said_by}
use Rattle.record_jobs.specs.Steps.{Adds, FindsTouch, HasShortPacket, IsShortDatagram, SeesKey, Steps, content_from, content_key}
use Rattle.record_jobs.specs.Steps.{content_works, counts_after, is_fresh, one_if, packet_content, record_content, waiting_after}
use Rattle.record_jobs.specs.Steps.{waiting_after_fragment, waiting_from}
use Rattle.record_jobs.specs.Touches.{tracked_key}
use Rattle.record_jobs.specs.Way.{LinkedRecord, Way}
use Rattle.record_jobs.proofs.Fronts.Contents.{content_from-packet}

-- what version 4 reads is what the record says
pub said-four : (way : Way) (r : LinkedRecord) (skip : Option Skip) (read : Placed) → placed r.captured.bytes skip read ≡ decoded r.link r.captured.bytes way.checks → skip ≡ None
    → said_by way r ≡ Ok (fields_at r.captured.bytes read)
unfolding said_by record_decoded
said-four way r skip read told none =
    ap (λ (four : Result Fields Skip). unless_other four (decoded6 r.link r.captured.bytes way.checks))
    (sym told ∙ ap (λ (o : Option Skip). placed r.captured.bytes o read) none)

content-in_place : (way : Way) (waiting : Option Frag3State) (r : LinkedRecord) (fields : Fields) → said_by way r ≡ Ok fields → is_fragment fields.body ≡ false
    → record_content way waiting r ≡ packet_content r.captured.moment fields
unfolding record_content
content-in_place way waiting r fields said none =
    ap (content_from way waiting r.captured.moment) said ∙ content_from-packet way waiting r.captured.moment fields none

waiting-in_place : (way : Way) (waiting : Option Frag3State) (r : LinkedRecord) (fields : Fields) → said_by way r ≡ Ok fields → is_fragment fields.body ≡ false
    → waiting_after way waiting r ≡ waiting
unfolding waiting_after
waiting-in_place way waiting r fields said none =
    ap (waiting_from way waiting r.captured.moment) said
    ∙ ap (λ (b : Bool). option_map_or (waiting_after_fragment way waiting r.captured.moment) (cond b (Some fields) None) waiting) none

-- a truth as a number
pub from_bool-one_if : (b : Bool) → from_bool b ≡ one_if b
from_bool-one_if true = refl
from_bool-one_if false = refl

-- a record, and a flow where one begins
abbrev pub with_packet : RecordCounts → Option Touch → RecordCounts
with_packet counts touch = record counts { records = counts.records + 1; flows = counts.flows + one_if (is_fresh touch) }

counted : (counts : RecordCounts) (moment : Moment) (fields : Fields) (touch : Option Touch) → with_packet counts touch ≡ counts_after counts (packet_content moment fields) touch
unfolding counts_after
counted counts moment fields touch =
    let nothing : (n : ℕ) → n ≡ n + 0 = λ n. omega arith in
    ap (λ (n : ℕ). record counts { records = counts.records + 1; fragments = n; flows = counts.flows + one_if (is_fresh touch) }) (nothing counts.fragments)
    ∙ ap (λ (n : ℕ). record counts { records = counts.records + 1; fragments = counts.fragments + 0; rebuilt = n; flows = counts.flows + one_if (is_fresh touch) }) (nothing counts.rebuilt)

-- what is done for what a record brings is what the definitions say of it
pub by_content : (way : Way) (old new : FrontState) (r : LinkedRecord) (content : RecordContent) (touch : Option Touch) (jobs_old jobs_new : List Job)
    → content ≡ record_content way old.frag3 r
    → FindsTouch old.flows (content_key way content) touch
    → SeesKey old.flows (content_key way content) new.flows
    → new.flows.max ≡ old.flows.max → new.frag3 ≡ waiting_after way old.frag3 r → new.begin ≡ Some (time_by old.begin r).first → new.last ≡ r.captured.moment
    → new.counts ≡ counts_after old.counts content touch
    → Adds old.next r.captured.moment (content_works way old.begin r touch content) jobs_old new.next jobs_new
    → (IfSome (datagram_from way old.frag3 r.captured.moment (said_by way r)) IsShortDatagram → HasShortPacket content)
    → Steps way old r new jobs_old jobs_new
by_content way old new r content touch jobs_old jobs_new is found sees most frag3 begin last counts added short = record {
  touch = touch;
  found = subst (λ (c : RecordContent). FindsTouch old.flows (content_key way c) touch) is found;
  sees = subst (λ (c : RecordContent). SeesKey old.flows (content_key way c) new.flows) is sees;
  most = most;
  frag3 = frag3;
  begin = begin;
  last = last;
  counts = counts ∙ ap (λ (c : RecordContent). counts_after old.counts c touch) is;
  added = subst (λ (c : RecordContent). Adds old.next r.captured.moment (content_works way old.begin r touch c) jobs_old new.next jobs_new) is added;
  short = λ bytes. subst HasShortPacket is (short bytes);
}

-- what is done for a packet of version 4 that is no fragment is what the definitions say of it
pub straight : (way : Way) (old new : FrontState) (r : LinkedRecord) (fields : Fields) (touch : Option Touch) (jobs_old jobs_new : List Job)
    → said_by way r ≡ Ok fields → is_fragment fields.body ≡ false → length fields.payload ≤ 65535
    → FindsTouch old.flows (tracked_key way.stream fields.ip fields.body) touch
    → SeesKey old.flows (tracked_key way.stream fields.ip fields.body) new.flows
    → new.flows.max ≡ old.flows.max → new.frag3 ≡ old.frag3 → new.begin ≡ Some (time_by old.begin r).first → new.last ≡ r.captured.moment
    → new.counts ≡ with_packet old.counts touch
    → Adds old.next r.captured.moment (works_by way (time_by old.begin r) touch None (Some (item_of kind.Packet r.captured.moment fields))) jobs_old new.next jobs_new
    → Steps way old r new jobs_old jobs_new
straight way old new r fields touch jobs_old jobs_new said none small found sees most frag3 begin last counts added =
    by_content way old new r (packet_content r.captured.moment fields) touch jobs_old jobs_new
    (sym (content-in_place way old.frag3 r fields said none)) found sees most
    (frag3 ∙ sym (waiting-in_place way old.frag3 r fields said none)) begin last
    (counts ∙ counted old.counts r.captured.moment fields touch) added (λ bytes. small)
