-- In a row only the last piece that begins below the place may have it inside, so cutting that one cuts the row
-- (`cut_whole`); cut or not, the pieces tell what they told (`recut_of`).
use Rattle.std.proofs.Common.{◌≡◌, ℕ, ap, ◌∙◌, arith}
use Rattle.overlap_core.specs.Pieces.{IsRow}
use Rattle.overlap_core.specs.Rows.{cut_row}
use Rattle.overlap_core.proofs.Rows.Places.{cut_whole, on_err_list, on_ok2}
use Rattle.overlap_core.proofs.Rows.Recut.{recut_of}
use Rattle.overlap_core.proofs.row.cut.Goals as goal

pub cut_before-requires : goal.cut_before-requires
cut_before-requires c = omega (arith, c.seek.ensures.spare, c.in_ok-reserve.ensures.enough)

pub returns-clause-ok : goal.returns-clause-ok
returns-clause-ok c =
    on_ok2 c.cut_before.result _ _
    ((low high : ℕ) → IsRow low c.args.pieces.now.list high →
    c.cut_before.new.pieces.list ≡ cut_row c.args.at c.args.pieces.now.list)
    c.cut_before.ensures.ok c.cut_before.ensures.first
    (λ ok first low high row.
    let kept = ap (λ p. p.list) c.in_ok-reserve.ensures.kept in
    cut_whole c.args.at low high c.args.pieces.now c.seek.new.pieces c.cut_before.new.pieces row (c.seek.ensures.list ∙ kept)
    (λ front rest list below from. c.seek.ensures.place front rest (kept ∙ list) below from) ok first)

pub returns-clause-err : goal.returns-clause-err
returns-clause-err c =
    on_err_list c.cut_before.result c.cut_before.new.pieces.list c.seek.new.pieces.list c.args.pieces.now.list
    c.cut_before.ensures.err (c.seek.ensures.list ∙ ap (λ p. p.list) c.in_ok-reserve.ensures.kept)

pub returns-clause-recut : goal.returns-clause-recut
returns-clause-recut c = λ low high row.
    let kept = ap (λ p. p.list) c.in_ok-reserve.ensures.kept in
    recut_of c.args.at low high c.cut_before.result c.args.pieces.now c.seek.new.pieces c.cut_before.new.pieces row
    (c.seek.ensures.list ∙ kept) (λ front rest list below from. c.seek.ensures.place front rest (kept ∙ list) below from)
    c.cut_before.ensures.ok c.cut_before.ensures.first c.cut_before.ensures.err
