-- What a capture's records are counted as.
--
-- A record that is skipped counts once by its reason, and so does a datagram that was put together and is
-- skipped. Fragments count as they are read, whether or not they are put together. A flow counts when it
-- begins. (The counts are this project's own.)
-- To try it on: two fragments that make a UDP datagram with a wrong checksum count as 2 records, 2 fragments,
-- 1 rebuilt datagram and 1 skip for its checksum.
use Rattle.std.specs.Prelude.{Bool, true, false, List, count_by, length}
use Rattle.std.specs.List.{filter_map}
use Rattle.std.specs.Option.{option_to_list}
use Rattle.edge_io.specs.Along.{trail}
use Rattle.packet_decode.specs.declared.skip.Skip.{Skip}
use Rattle.packet_decode.specs.declared.skip.Skip.TheVariants as skip
use Rattle.packet_decode.specs.Decoding.{Fields}
use Rattle.frag3_core.specs.declared.answer.Datagram.{Datagram}
use Rattle.stream5_sessions.specs.Liveness.{begun}
use Rattle.record_jobs.specs.declared.counts.RecordCounts.{RecordCounts}
use Rattle.record_jobs.specs.Packets.{datagram_in, fragment_fields, said_by, skip_in}
use Rattle.record_jobs.specs.Touches.{most_flows, touches}
use Rattle.record_jobs.specs.Way.{LinkedRecord, Way}

-- the reasons of the skips of these records
abbrev pub skips : Way → List LinkedRecord → List Skip
skips way records = trail (λ before r. option_to_list (skip_in way before r)) records

-- the datagrams that these records completed
abbrev pub datagrams : Way → List LinkedRecord → List Datagram
datagrams way records = trail (λ before r. option_to_list (datagram_in way before r)) records

-- the fragments among these records
abbrev pub fragments_read : Way → List LinkedRecord → List Fields
fragments_read way records = filter_map (λ r. fragment_fields (said_by way r)) records

-- each reason for which a record is skipped
abbrev pub is_short : Skip → Bool
is_short skip.Short = true
is_short reason = false

abbrev pub is_other : Skip → Bool
is_other skip.OtherProtocol = true
is_other reason = false

abbrev pub is_checksum : Skip → Bool
is_checksum skip.Checksum = true
is_checksum reason = false

abbrev pub is_malformed : Skip → Bool
is_malformed skip.Malformed = true
is_malformed reason = false

-- nothing was counted
abbrev pub none_counted : RecordCounts
none_counted = record { records = 0; short = 0; other = 0; checksum = 0; malformed = 0; fragments = 0; rebuilt = 0; flows = 0 }

-- the counts of these records
unfoldable pub counts : Way → List LinkedRecord → RecordCounts
counts way records = record {
  records = length records;
  short = count_by is_short (skips way records);
  other = count_by is_other (skips way records);
  checksum = count_by is_checksum (skips way records);
  malformed = count_by is_malformed (skips way records);
  fragments = length (fragments_read way records);
  rebuilt = length (datagrams way records);
  flows = begun (most_flows way.stream) (touches way records);
}
