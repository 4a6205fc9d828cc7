-- A packet's body has seven numbers and then as many bytes as the last says:
-- a shorter body or another count is no packet, and else this is the one.
use Rattle.std.proofs.Common.{refl, ap, ◌∙◌, drop, arith}
use Rattle.byteorder.specs.Endian.{big_number}
use Rattle.unified2_out.proofs.Bodies.{size-2, packet-of}
use Rattle.unified2_out.proofs.read.packet.Goals as goal

pub returns-then-body-lt-PACKET_NUMBERS : goal.returns-then-body-lt-PACKET_NUMBERS
returns-then-body-lt-PACKET_NUMBERS c entry of = let long = (size-2 c.args.body.now entry of).0 in omega arith

pub returns-then-count-bytes : goal.returns-then-count-bytes
returns-then-count-bytes c entry of =
    let size = (size-2 c.args.body.now entry of).1 in
    let count = c.read_u32_into.ensures 6 (omega arith) ∙ ap (λ w. big_number 4 (drop 24 w)) c.split_at.ensures.front in
    absurd (c.if-count-bytes.true (omega arith))

pub returns : goal.returns
returns c =
    packet-of _ c.args.body.now _ _ c.read_u32_into.new.dst (λ k. omega (arith, c.type_inv.body k)) c.requires (omega arith)
    c.split_at.ensures.front c.split_at.ensures.back (omega arith) c.read_u32_into.ensures refl c.if-count-bytes.false
    c.in_ok-copy.ensures
