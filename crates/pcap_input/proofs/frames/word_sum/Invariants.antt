-- The sum so far and that of the words left are the whole sum, and each byte left adds 65536 at most.
use Rattle.std.proofs.Common.{◌≡◌, ◌+◌, ◌*◌, ◌≤◌, length}
use Rattle.edge_io.specs.Bytes.{word_sum}
use Rattle.pcap_input.proofs.frames.word_sum.Given as goal

abbrev pub invariant-loop-rest : goal.invariant-loop-rest
invariant-loop-rest l = record {
  same : l.sum + word_sum l.rest ≡ word_sum l.bytes;
  room : l.sum + 65536 * length l.rest ≤ 65536 * length l.bytes;
}

abbrev pub decreases-loop-rest : goal.decreases-loop-rest
decreases-loop-rest l = length l.rest
