-- The row parts where the segment's places from the floor on begin (`parted`), and `seek` comes just there; so what `lay`
-- makes is the whole row with the segment laid over it.
use Rattle.std.proofs.Common.{◌≡◌, ◌++◌, max, ap, subst, sym, ◌∙◌, arith}
use Rattle.overlap_core.specs.declared.segment.Bounds.{Bounds}
use Rattle.overlap_core.specs.Overlap.{end_of}
use Rattle.overlap_core.specs.Pieces.{IsRow}
use Rattle.overlap_core.specs.Rows.{BeginBelow, BeginFrom, IsReady, laid}
use Rattle.overlap_core.proofs.Rows.Places.{parted}
use Rattle.overlap_core.proofs.Rows.Telling.{rest-row}
use Rattle.overlap_core.proofs.Rows.Overlaying.{IsLaidOver, laid_over-holds, laid_over-row}
use Rattle.overlap_core.proofs.room.lay_among.Goals as goal

pub lay-requires-clause-ready : goal.lay-requires-clause-ready
lay-requires-clause-ready c =
    let new = c.args.new.now in
    let low = max c.args.floor new.start in
    let two = parted low c.args.floor c.requires.row.0 c.args.pieces.now.list c.requires.row.1 in
    let same : c.max-low.result ≡ low = c.max-low.ensures ∙ ap (λ (b : Bounds). max c.args.floor b.start) c.bounds.ensures in
    let row = subst (λ ps. IsRow c.args.floor ps c.requires.row.0) two.list c.requires.row.1 in
    let ready : IsReady c.seek.new.pieces c.args.buffers.items low (end_of new) = record {
      front = two.front;
      rest = two.rest;
      between = record {
        list = c.seek.ensures.list ∙ two.list;
        place = c.seek.ensures.place two.front two.rest two.list (subst (λ n. BeginBelow n two.front) (sym same) two.below) (subst (λ n. BeginFrom n two.rest) (sym same) two.from);
      };
      top = max low c.requires.row.0;
      row = rest-row low c.args.floor c.requires.row.0 two.front two.rest row two.from;
      sizes = c.requires.room.sizes two.front two.rest two.list two.below two.from;
      nodes = omega (arith, c.requires.room.nodes, c.seek.ensures.spare);
    } in
    subst (λ n. IsReady c.seek.new.pieces c.args.buffers.items n (end_of new)) (sym same) ready

abbrev Made : goal.After-lay → Type 0
Made c = IsLaidOver c.args.preference c.args.new.now c.args.floor c.args.pieces.now.list c.lay.new.pieces.list

made : (c : goal.After-lay) → Made c
made c =
    let new = c.args.new.now in
    let low = max c.args.floor new.start in
    let two = parted low c.args.floor c.requires.row.0 c.args.pieces.now.list c.requires.row.1 in
    let same : c.max-low.result ≡ low = c.max-low.ensures ∙ ap (λ (b : Bounds). max c.args.floor b.start) c.bounds.ensures in
    record {
      front = two.front;
      rest = two.rest;
      list = two.list;
      below = two.below;
      from = two.from;
      begins = c.requires.room.begins;
      ends = c.requires.room.ends;
      is = c.lay.ensures two.front two.rest (record {
        list = c.seek.ensures.list ∙ two.list;
        place = c.seek.ensures.place two.front two.rest two.list (subst (λ n. BeginBelow n two.front) (sym same) two.below) (subst (λ n. BeginFrom n two.rest) (sym same) two.from);
      }) ∙ ap (λ n. two.front ++ laid c.args.preference new n two.rest) same;
    }

pub returns-clause-row : goal.returns-clause-row
returns-clause-row c = λ top row. laid_over-row c.args.preference c.args.new.now c.args.floor top c.args.pieces.now.list c.lay.new.pieces.list (made c) row

pub returns-clause-holds : goal.returns-clause-holds
returns-clause-holds c = λ top segments row holds. laid_over-holds c.args.preference c.args.new.now segments c.args.floor top c.args.pieces.now.list c.lay.new.pieces.list (made c) row holds
