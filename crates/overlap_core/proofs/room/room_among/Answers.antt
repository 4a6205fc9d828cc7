-- After the two cuts no piece has places on both sides of where the segment begins or ends (`room-cuts`), and `seek` comes
-- to where the row parts, so the gaps from there on are measured.
use Rattle.std.proofs.Common.{◌≡◌, ◌++◌, max, ap, subst, sym, ◌∙◌, arith}
use Rattle.overlap_core.specs.Pieces.{IsRow}
use Rattle.overlap_core.specs.Rows.{BeginBelow, BeginFrom, gap_sizes, IsCutAt, Between}
use Rattle.overlap_core.proofs.Rows.Recut.{room-cuts}
use Rattle.overlap_core.proofs.Rows.Telling.{rest-row}
use Rattle.overlap_core.proofs.room.room_among.Goals as goal

pub returns-clause-room : goal.returns-clause-room
returns-clause-room c = λ top row.
    let low = max c.args.floor c.args.bounds.start in
    let same : c.max-low.result ≡ low = c.max-low.ensures in
    let cuts = room-cuts c.max-low.result c.args.bounds.end c.args.floor top c.args.pieces.now.list c.cut.new.pieces.list c.cut-2.new.pieces.list row c.in_ok-cut.ensures.ok c.in_ok-cut-2.ensures.ok in
    let sought : c.buffers_for.new.pieces.list ≡ c.cut-2.new.pieces.list = c.in_ok-buffers.ensures.list ∙ c.seek.ensures.list in
    let list : c.reserve.new.self.list ≡ c.cut-2.new.pieces.list = ap (λ p. p.list) c.in_ok-reserve.ensures.kept ∙ sought in
    record {
      begins = subst (λ n. IsCutAt n c.reserve.new.self.list) same (subst (IsCutAt c.max-low.result) (sym list) cuts.0);
      ends = subst (IsCutAt c.args.bounds.end) (sym list) cuts.1;
      sizes = λ front rest is below from.
          let here : c.cut-2.new.pieces.list ≡ front ++ rest = sym list ∙ is in
          let below_low = subst (λ n. BeginBelow n front) (sym same) below in
          let from_low = subst (λ n. BeginFrom n rest) (sym same) from in
          let between : Between c.seek.new.pieces front rest = record { list = c.seek.ensures.list ∙ here; place = c.seek.ensures.place front rest here below_low from_low } in
          let rest_row = rest-row c.max-low.result c.args.floor top front rest (subst (λ ps. IsRow c.args.floor ps top) here cuts.2) from_low in
          c.in_ok-buffers.ensures.sizes front rest (max c.max-low.result top) between rest_row ∙ ap (λ n. gap_sizes n c.args.bounds.end rest) same;
      nodes = omega (arith, c.in_ok-reserve.ensures.enough, c.len.ensures, c.in_ok-buffers.buffers.ok);
    }
