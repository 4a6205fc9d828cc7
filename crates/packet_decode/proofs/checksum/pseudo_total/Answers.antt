-- 256 times 256 counts as 1, so the sum in exchanged bytes counts as the pseudo header's, each address as its words.
use Rattle.packet_decode.proofs.Sums.{pseudo}
use Rattle.packet_decode.proofs.checksum.pseudo_total.Goals as goal

pub returns-clause-same : goal.returns-clause-same
returns-clause-same c more =
    let counted =
    pseudo c.args.ip.now.src c.args.ip.now.dst c.args.ip.now.protocol c.args.len
    c.address_total-source.result c.address_total-destination.result more
    c.address_total-source.ensures.same c.address_total-destination.ensures.same in
    cc
