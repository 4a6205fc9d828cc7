-- The stride and a window's letters exceed the shortest length by no more than one, so all windows lie whole within their
-- patterns (`sifts-made`).
use Rattle.std.proofs.Common.{arith}
use Rattle.pattern_search.specs.declared.sieve.Sieve.{Sieve}
use Rattle.pattern_search.proofs.Sieving.{sifts-made}
use Rattle.pattern_search.proofs.sieve.Sieve.of.Goals as goal

pub returns : goal.returns
returns c =
    let sieve : Sieve = record {
      table = c.in_ok-table.table;
      stride = c.stride_for-stride.result;
      mask = c.folding_mask-mask.result;
      shortest = c.shortest_length-shortest.result;
    } in
    sifts-made sieve c.min-letters.result c.args.patterns.now c.shortest_length-shortest.ensures.some
    c.stride_for-stride.ensures.within (omega (arith, c.min-letters.ensures)) c.folding_mask-mask.ensures
    c.shortest_length-shortest.ensures.all c.in_ok-table.ensures
