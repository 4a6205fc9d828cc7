-- The number that is read at place 4 is the body's length, and what comes after the header is 8 bytes shorter than all
-- bytes, so that the tests are those of the definition.
use Rattle.std.proofs.Common.{◌∙◌, ap, length, arith}
use Rattle.std.proofs.lemmas.List.{take_rest, length-drop}
use Rattle.byteorder.specs.Endian.{big_number}
use Rattle.snort_eve.proofs.records.frame_of.Goals as goal

pub returns-then-bytes-lt-HEADER : goal.returns-then-bytes-lt-HEADER
returns-then-bytes-lt-HEADER c long = absurd (omega arith)

pub returns-then-len-gt-MAX_BODY : goal.returns-then-len-gt-MAX_BODY
returns-then-len-gt-MAX_BODY c =
    let size = c.read_u32-len.ensures ∙ ap (big_number 4) (take_rest c.args.bytes.now 4) in
    (omega arith, omega (arith, size))

pub returns-then-after-len : goal.returns-then-after-len
returns-then-after-len c long =
    let size = c.read_u32-len.ensures ∙ ap (big_number 4) (take_rest c.args.bytes.now 4) in
    let after = ap length (take_rest c.args.bytes.now 8) ∙ length-drop 8 c.args.bytes.now in
    omega (arith, size, after)

pub returns : goal.returns
returns c =
    let size = c.read_u32-len.ensures ∙ ap (big_number 4) (take_rest c.args.bytes.now 4) in
    let after = ap length (take_rest c.args.bytes.now 8) ∙ length-drop 8 c.args.bytes.now in
    (omega arith, omega (arith, size), omega (arith, size, after))
