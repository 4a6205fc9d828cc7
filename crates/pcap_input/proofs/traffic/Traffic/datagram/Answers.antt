-- Two draws, the last number of the source and then the text, are what the definition of a datagram draws, in its order.
use Rattle.std.proofs.Common.{◌∙◌, ap, ◌+◌}
use Rattle.pcap_input.proofs.Made.Making.{datagram-made}
use Rattle.pcap_input.proofs.traffic.Traffic.datagram.Goals as goal

pub returns-clause-made : goal.returns-clause-made
returns-clause-made c =
    datagram-made c.args.self.now (1 + c.below.result) c.below.new.self.state c.text.new.self.state _ _
    (ap (λ n. 1 + n) c.below.ensures.drawn)
    c.below.ensures.stepped
    (c.as_bytes.ensures.value ∙ c.in_ok-text.ensures.drawn)
    c.in_ok-text.ensures.stepped
    c.in_ok-frame.ensures.made
