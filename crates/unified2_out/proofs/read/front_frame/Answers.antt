-- A frame is a kind, a length and as many bytes, no more than 1,048,576:
-- where these aren't all there no frame is at the front, else it is this one.
use Rattle.std.proofs.Common.{◌≤◌, length, ap, ◌∙◌, take, inl, inr, arith}
use Rattle.std.proofs.lemmas.List.{take_rest, length-drop}
use Rattle.byteorder.specs.Endian.{big_number}
use Rattle.unified2_out.proofs.Frames.{frame-long, frame-size, frame-read}
use Rattle.unified2_out.proofs.read.front_frame.Goals as goal

pub returns-then-bytes-lt-HEADER : goal.returns-then-bytes-lt-HEADER
returns-then-bytes-lt-HEADER c kind body front = let long = frame-long c.args.bytes.now kind body front in omega arith

pub returns-then-len-gt-MAX_BODY : goal.returns-then-len-gt-MAX_BODY
returns-then-len-gt-MAX_BODY c kind body front =
    let long = frame-long c.args.bytes.now kind body front in
    let size = c.read_u32-len.ensures ∙ ap (big_number 4) (take_rest c.args.bytes.now 4) ∙ frame-size c.args.bytes.now kind body front in
    let short : length body ≤ 1048576 = front.short in
    let after = ap length (take_rest c.args.bytes.now 8) ∙ length-drop 8 c.args.bytes.now in
    elim c.then-len-gt-MAX_BODY.either [ inl large ↦ omega (arith, size) | inr cut ↦ let less = cut.1 in omega (arith, size, after) ]

pub returns : goal.returns
returns c =
    frame-read c.args.bytes.now _ c.read_u32-len.result _ (λ k. omega (arith, c.type_inv.bytes k))
    (omega (arith, ap length (take_rest c.args.bytes.now 8), length-drop 8 c.args.bytes.now))
    (omega arith) c.read_u32-kind.ensures
    (c.read_u32-len.ensures ∙ ap (big_number 4) (take_rest c.args.bytes.now 4))
    (ap (take c.read_u32-len.result) (take_rest c.args.bytes.now 8))
