-- The piece that is put last has all of the segment's bytes, since the buffer is as long as the segment.
use Rattle.std.proofs.Common.{◌≡◌, ◌+◌, ◌∷◌, [], ◌++◌, length, ap, ◌∙◌}
use Rattle.overlap_core.specs.declared.segment.Bounds.{Bounds}
use Rattle.overlap_core.specs.Rows.{part_of}
use Rattle.overlap_core.proofs.room.lay_after.Goals as goal

pub returns : goal.returns
returns c =
    let new = c.args.new.now in
    let start : c.bounds-start.result.start ≡ new.start = ap (λ (b : Bounds). b.start) c.bounds-start.ensures in
    ap (λ p. p.list) c.push_back.ensures
    ∙ ap (λ p. c.args.pieces.now.list ++ p ∷ [])
    (c.of.ensures ∙ ap (λ n. part_of new n (n + length c.args.buffer)) start ∙ ap (part_of new new.start) c.requires.size)
