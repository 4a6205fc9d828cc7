-- The bytes so far, and the records of the frames that this traffic still makes, are the whole capture.
use Rattle.std.proofs.Common.{◌≡◌, ◌-◌, ◌++◌}
use Rattle.pcap_input.specs.Generated.{frames, records_from, generated}
use Rattle.pcap_input.proofs.generate.make_capture.Given as goal

abbrev pub invariant-loop-millis : goal.invariant-loop-millis
invariant-loop-millis l = l.bytes.items ++ records_from l.millis (frames (l.count - l.millis) l.traffic) ≡ generated l.seed l.count
