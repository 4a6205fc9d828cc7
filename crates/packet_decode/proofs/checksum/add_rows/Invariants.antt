-- The sum so far counts with the bytes left as the whole does; each
-- byte left adds no more than 2 ^ 61, so there is room for all.
use Rattle.std.proofs.Common.{◌≡◌, ◌+◌, ◌*◌, ◌<◌, ◌^◌, length}
use Rattle.packet_decode.specs.Checksum.{sums_to_all_ones}
use Rattle.packet_decode.proofs.checksum.add_rows.Given as goal

abbrev pub invariant-loop-rest : goal.invariant-loop-rest
invariant-loop-rest l = record {
  same : sums_to_all_ones l.total l.rest ≡ sums_to_all_ones l.fn.start l.fn.bytes;
  room : l.total + length l.rest * 2 ^ 61 < 2 ^ 125;
}

abbrev pub decreases-loop-rest : goal.decreases-loop-rest
decreases-loop-rest l = length l.rest
