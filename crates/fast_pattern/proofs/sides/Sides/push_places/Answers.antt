-- A port is below 65536, so each side's index adds the rules sought at it; both calls add those of both (`sought-both`).
use Rattle.fast_pattern.proofs.Ports.Siding.{sought-both}
use Rattle.std.proofs.Common.{arith}
use Rattle.fast_pattern.proofs.sides.Sides.push_places.Goals as goal

pub returns : goal.returns
returns c =
    let a = c.args in
    sought-both a.self.now a.sport a.dport a.places.now.items c.push_places.new.places.items c.push_places-2.new.places.items
    (omega arith) (omega arith) c.in_ok-push_places.ensures c.in_ok-push_places-2.ensures
