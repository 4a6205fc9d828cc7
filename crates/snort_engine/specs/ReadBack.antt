-- The records that a run writes under `--unified2`, and what lets them be read back.
--
-- Each alert is two records, its event and its packet (`Unified2`). A list of records is read back from its
-- joined texts where each number fits its bytes, both addresses of an event are of one version, and its packet
-- isn't too long (unified2_out specs/Reading). All of it follows where the rules' numbers fit, and the records hold
-- bytes, as those of a capture do.
-- To try it on: one alert on a packet of 45 bytes is an event of 60 bytes and a packet of 81, which read back as
-- these two.
use Rattle.std.specs.Prelude.{ℕ, ◌+◌, ◌^◌, ◌<◌, ◌≤◌, IfSome, List, [], ◌∷◌, ◌++◌, length}
use Rattle.std.specs.List.{All}
use Rattle.pcap_input.specs.Savefile.{longest}
use Rattle.rule_types.specs.declared.rule.Rule.{Rule}
use Rattle.record_jobs.specs.Way.{LinkedRecord}
use Rattle.unified2_out.specs.declared.record.U2.{U2}
use Rattle.unified2_out.specs.declared.record.U2.TheVariants.{Event as an_event, Packet as a_packet}
use Rattle.unified2_out.specs.Records.{AllFit}
use Rattle.alert_lines.specs.Events.{Alert}
use Rattle.alert_lines.specs.Unified2.{event_record, packet_record}
use Rattle.snort_engine.specs.Course.{Plan}
use Rattle.snort_engine.specs.Lines.{alert_count}
use Rattle.snort_engine.specs.Trace.{CaptureState, trace}

-- the records of an alert after this many others: its event, and then the packet
abbrev pub entries_of : ℕ → Alert → List U2
entries_of before alert =
    an_event (event_record before alert.what)
    ∷ a_packet (packet_record before alert.what.head.moment alert.source) ∷ []

-- the records of alerts after this many others
abbrev pub entries_from : ℕ → List Alert → List U2
entries_from before [] = []
entries_from before (alert ∷ later) = entries_of before alert ++ entries_from (before + 1) later

-- the records that are written for a capture's records after these records
unfoldable pub entries : Plan → List LinkedRecord → List LinkedRecord → CaptureState → List U2
entries plan before records state = entries_from (alert_count plan before) (trace plan before records state)

-- ---- what fits

-- a rule's numbers have four bytes each, and so has the place of its class, counted from 1
pub record FitsRule (rule : Rule) : Type 0 where
  pub sid : rule.sid < 2 ^ 32
  pub gid : rule.gid < 2 ^ 32
  pub rev : rule.rev < 2 ^ 32
  pub priority : rule.priority < 2 ^ 32
  pub class : IfSome rule.class (λ place. place + 1 < 2 ^ 32)

-- a record holds bytes, and no more than a capture's may
pub record FitsRecord (r : LinkedRecord) : Type 0 where
  pub short : length r.captured.bytes ≤ longest
  pub bytes : AllFit 1 r.captured.bytes
