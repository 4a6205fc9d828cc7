-- A packet's text is nine words and then its bytes; the two words that tell lengths have the same four bytes modulo 2 ^ 32.
use Rattle.std.proofs.Common.{◌≡◌, ◌+◌, length, refl, ap, ◌∙◌, arith}
use Rattle.byteorder.specs.Endian.{big_bytes}
use Rattle.unified2_out.specs.Records.{packet_of}
use Rattle.unified2_out.proofs.Writing.{packet-appended}
use Rattle.unified2_out.proofs.write.push_packet.Goals as goal

pub returns-clause-appended : goal.returns-clause-appended
returns-clause-appended c =
    let none : 0 + length c.args.packet.now.bytes.now ≡ length c.args.packet.now.bytes.now = omega arith in
    packet-appended (packet_of c.args.packet.now) c.length_word-size.result c.length_word-count.result c.args.out.now.items
    c.write_u32_into.new.dst c.args.packet.now.bytes.now c.extend_from_slice.new.self.items c.extend_from_slice-2.new.self.items
    c.length_word-size.ensures (c.length_word-count.ensures ∙ ap (big_bytes 4) none)
    c.write_u32_into.ensures refl c.in_ok-extend_from_slice.ensures.items
    c.in_ok-extend_from_slice-2.ensures.items
