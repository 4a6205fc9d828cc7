-- The flags of `share_of` are those of the parts so far: whether all are negated, and whether some part, negated or not, has
-- the range whole or meets it.
use Rattle.std.proofs.Common.{◌≡◌, ◌&&◌, not, take}
use Rattle.std.specs.List.{list_any, list_all}
use Rattle.fast_pattern.specs.Blocks.{has_whole, meets}
use Rattle.fast_pattern.proofs.blocks.share_of.Given as goal

abbrev pub invariant-loop-part : goal.invariant-loop-part
invariant-loop-part l = record {
  negated : l.negated ≡ list_all (λ part. part.negated) (take l.part-index l.parts);
  whole : l.has_whole ≡ list_any (λ part. not part.negated && has_whole l.low l.high part) (take l.part-index l.parts);
  some : l.has_some ≡ list_any (λ part. not part.negated && meets l.low l.high part) (take l.part-index l.parts);
  lacks_whole : l.lacks_whole ≡ list_any (λ part. part.negated && has_whole l.low l.high part) (take l.part-index l.parts);
  lacks_some : l.lacks_some ≡ list_any (λ part. part.negated && meets l.low l.high part) (take l.part-index l.parts);
}
