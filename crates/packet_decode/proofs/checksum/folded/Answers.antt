-- A sum counts as much as its parts of 64 and 32 bits together, and each mask gives the remainder that is such a part.
use Rattle.std.proofs.Common.{◌≡◌, ◌-◌, ◌/◌, ◌%◌, ◌^◌, bit_and, ap, ◌∙◌, arith}
use Rattle.std.proofs.lemmas.Nat.{and_mask}
use Rattle.packet_decode.specs.Checksum.{is_all_ones}
use Rattle.packet_decode.proofs.Sums.{parts}
use Rattle.packet_decode.proofs.checksum.folded.Goals as goal

pub returns : goal.returns
returns c =
    let low : bit_and c.args.sum (2 ^ 64 - 1) ≡ c.args.sum % 2 ^ 64 = and_mask c.args.sum 64 in
    let lowest : bit_and (c.args.sum % 2 ^ 64) (2 ^ 32 - 1) ≡ c.args.sum % 2 ^ 64 % 2 ^ 32 = and_mask (c.args.sum % 2 ^ 64) 32 in
    rw (low, lowest) (parts (c.args.sum / 2 ^ 64) (c.args.sum % 2 ^ 64) ∙ ap is_all_ones (omega arith))
