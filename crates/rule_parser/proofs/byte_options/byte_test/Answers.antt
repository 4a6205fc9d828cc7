-- Each part is read, and so the option is.
use Rattle.std.proofs.Common.{◌≡◌, sym, Ok}
use Rattle.rule_types.specs.declared.option.Opt.TheVariants as opt
use Rattle.rule_parser.specs.ByteOptions.{seen, seen_comparison, byte_test}
use Rattle.rule_parser.proofs.ByteReading.{test-read}
use Rattle.rule_parser.proofs.byte_options.byte_test.Goals as goal

pub returns : goal.returns
returns c =
    let against = c.in_ok-against.against in
    let read : byte_test c.args.names.now c.args.left c.args.value.now
    ≡ Ok (opt.ByteTest c.in_ok-fetch.fetch against.negated against.cmp against.value) =
    test-read c.args.names.now c.args.left c.args.value.now (seen c.first_part-count.result) (seen c.in_ok-place.place)
    c.in-Some.bytes (seen_comparison against) c.in_ok-offset.offset c.in_ok-words.words c.in_ok-fetch.fetch
    c.first_part-count.ensures (sym c.in-Some.ensures.value) c.in_ok-against.ensures c.in_ok-place.ensures
    (sym c.in_ok-offset.ensures) (sym c.in_ok-words.ensures) (sym c.in_ok-fetch.ensures) in
    sym read
