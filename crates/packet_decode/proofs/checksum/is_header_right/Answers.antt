-- Eight, eight and four bytes are the first twenty, each counted as
-- its words: with no options none are left, and their sum decides.
use Rattle.std.proofs.Common.{◌≡◌, length, ap, ◌∙◌, arith}
use Rattle.packet_decode.specs.Checksum.{is_all_ones}
use Rattle.packet_decode.proofs.Sums.{none_left}
use Rattle.packet_decode.proofs.checksum.is_header_right.Goals as goal

pub returns-then-is_empty : goal.returns-then-is_empty
returns-then-is_empty c =
    let none : length c.add_four-twenty.result.1.now ≡ 0 = grind (arith, c.if-is_empty.ensures) in
    c.is_all_ones.ensures
    ∙ none_left c.add_four-twenty.result.0 c.add_four-twenty.result.1.now none
    ∙ c.add_four-twenty.ensures.same
    ∙ c.add_wide-sixteen.ensures.same
    ∙ c.add_wide-eight.ensures.same
    ∙ ap is_all_ones (omega arith)
