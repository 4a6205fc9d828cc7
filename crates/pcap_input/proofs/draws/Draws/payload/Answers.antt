-- One step of the generator is taken for the mark and 64 for the letters, which makes 65.
use Rattle.std.proofs.Common.{sym, ap, ◌∙◌}
use Rattle.pcap_input.specs.Generated.{steps}
use Rattle.pcap_input.proofs.Made.Making.{steps-first}
use Rattle.pcap_input.proofs.draws.Draws.payload.Goals as goal

pub returns-clause-stepped : goal.returns-clause-stepped
returns-clause-stepped c =
    c.in_ok-text.ensures.stepped
    ∙ ap (steps 64) c.below-mark.ensures.stepped
    ∙ sym (steps-first 64 c.args.self.now.state)
