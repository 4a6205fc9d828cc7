-- A port of the list lies in a part, or all parts are negated and let all ports in; the empty list lets all in as well
-- (`opens-list`).
use Rattle.std.proofs.Common.{arith}
use Rattle.fast_pattern.proofs.Ports.Opening.{opens-list}
use Rattle.fast_pattern.proofs.doors.open_list.Goals as goal

pub returns-clause-opens : goal.returns-clause-opens
returns-clause-opens c = opens-list c.loop-range.table c.args.part c.args.ports.now c.loop-range.invariant.1
    (λ k d h. c.loop-range.invariant.2 k d (omega (arith, c.loop-range-test.false)))
