-- No place past the end of the rules is sought, so what is filed of them all is what is sought (`side-made`).
use Rattle.fast_pattern.proofs.Ports.Siding.{side-made}
use Rattle.fast_pattern.proofs.sides.index_by.Goals as goal

pub returns : goal.returns
returns c =
    let a = c.args in
    side-made a.rules.now a.patterns.now a.kind a.side c.in_ok-index.index c.in_ok-entries.entries.items c.in_ok-index.ensures.chained c.in_ok-index.ensures.entries c.in_ok-entries.ensures
