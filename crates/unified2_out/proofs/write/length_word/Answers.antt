-- What a number has above 2 ^ 32 doesn't show in its four bytes, so the sum may be taken modulo that.
use Rattle.std.proofs.Common.{◌≡◌, ◌+◌, ◌%◌, ap, ◌∙◌, arith}
use Rattle.byteorder.specs.Endian.{big_bytes}
use Rattle.unified2_out.proofs.Numbers.{words-modulo}
use Rattle.unified2_out.proofs.write.length_word.Goals as goal

pub returns : goal.returns
returns c =
    let is : (c.args.head + c.args.count % 4294967296) % 4294967296 ≡ (c.args.head + c.args.count) % 4294967296 = omega arith in
    ap (big_bytes 4) is ∙ words-modulo (c.args.head + c.args.count)
