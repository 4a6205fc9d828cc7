-- There are sixteen sessions, and those below `number` are as before their first turn.
use Rattle.std.proofs.Common.{◌≡◌, ℕ, ◌<◌, length, get_or}
use Rattle.pcap_input.specs.declared.traffic.TrafficSession.{TrafficSession}
use Rattle.pcap_input.specs.Generated.{first_session}
use Rattle.pcap_input.proofs.traffic.Traffic.new.Given as goal

abbrev pub invariant-loop-number : goal.invariant-loop-number
invariant-loop-number l = record {
  size : length l.sessions ≡ 16;
  first : (k : ℕ) (d : TrafficSession) → k < l.number → get_or l.sessions k d ≡ first_session k;
}
