-- What is read of the bytes between the bounds is, with `start` added to its place, what the whole record has there.
use Rattle.std.proofs.Common.{refl, sym, ◌∙◌}
use Rattle.std.proofs.lemmas.Result.{err_from_is_err_and}
use Rattle.packet_decode.proofs.Parts.{placed_part, transport_part}
use Rattle.packet_decode.proofs.records.datagram_data.Goals as goal

pub returns-in_err-transport-clause-told : goal.returns-in_err-transport-clause-told
returns-in_err-transport-clause-told c =
    let p = err_from_is_err_and c.from_residual.result c.from_residual.ensures.1 in
    let said =
    c.in_err-transport.ensures.told
    ∙ transport_part {start = c.args.bounds.start} {stop = c.args.bounds.stop} (record { is = refl; in_order = c.requires.in_order; captured = c.requires.captured }) c.args.out.now.ip c.args.checks in
    rw (p.1, p.2) said

pub returns-clause-told : goal.returns-clause-told
returns-clause-told c =
    sym (placed_part {start = c.args.bounds.start} {stop = c.args.bounds.stop}
    (record { is = refl; in_order = c.requires.in_order; captured = c.requires.captured })
    c.transport.new.out c.in_ok-transport.ensures.within)
    ∙ c.in_ok-transport.ensures.told
    ∙ transport_part {start = c.args.bounds.start} {stop = c.args.bounds.stop}
    (record { is = refl; in_order = c.requires.in_order; captured = c.requires.captured })
    c.args.out.now.ip c.args.checks
