-- The text of a frame is its kind, its body's length and its body, which are appended in this order.
use Rattle.std.proofs.Common.{◌≡◌, ◌+◌, length, ap, ◌∙◌, arith}
use Rattle.byteorder.specs.Endian.{big_bytes}
use Rattle.unified2_out.proofs.Writing.{frame-appended}
use Rattle.unified2_out.proofs.write.push_other.Goals as goal

pub returns-clause-appended : goal.returns-clause-appended
returns-clause-appended c =
    let none : 0 + length c.args.body.now ≡ length c.args.body.now = omega arith in
    frame-appended c.args.kind c.length_word-size.result c.args.body.now c.args.out.now.items c.write_u32_into.new.dst
    c.extend_from_slice.new.self.items c.extend_from_slice-2.new.self.items (c.length_word-size.ensures ∙ ap (big_bytes 4) none)
    c.write_u32_into.ensures c.in_ok-extend_from_slice.ensures.items
    c.in_ok-extend_from_slice-2.ensures.items
