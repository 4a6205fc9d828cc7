-- The bytes from the walk's place to the packet's end, read as a datagram, are the transport part at that place.
use Rattle.std.proofs.Common.{length, refl, ◌∙◌, arith}
use Rattle.packet_decode.proofs.Parts.{transport_part}
use Rattle.ipv6_decode.proofs.records.upper.Goals as goal

pub returns-clause-exact : goal.returns-clause-exact
returns-clause-exact c =
    c.decode_datagram.ensures.exact
    ∙ transport_part {bytes = c.args.packet.now} {start = c.args.walk.place} {stop = length c.args.packet.now}
    (record { is = refl; in_order = c.requires; captured = omega arith })
    c.args.walk.head c.args.checks
