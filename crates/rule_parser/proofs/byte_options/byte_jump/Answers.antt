-- Each part is read, and so the option is.
use Rattle.std.proofs.Common.{◌≡◌, ◌∙◌, sym, ap, Ok}
use Rattle.rule_parser.specs.ByteOptions.{seen, jump_of, byte_jump}
use Rattle.rule_parser.proofs.ByteReading.{jump-read}
use Rattle.rule_parser.proofs.byte_options.byte_jump.Goals as goal

pub returns : goal.returns
returns c =
    let read : byte_jump c.args.names.now c.args.left c.args.value.now ≡ Ok (jump_of c.in_ok-fetch.fetch c.in_ok-words.words) =
    jump-read c.args.names.now c.args.left c.args.value.now (seen c.first_part-count.result) (seen c.in_ok-place.place) c.in-Some.bytes c.in_ok-offset.offset c.in_ok-words.words c.in_ok-fetch.fetch
    c.first_part-count.ensures (sym c.in-Some.ensures.value) c.in_ok-place.ensures (sym c.in_ok-offset.ensures) (sym c.in_ok-words.ensures) (sym c.in_ok-fetch.ensures) in
    ap Ok c.jump_option.ensures ∙ sym read
