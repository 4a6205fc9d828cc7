-- A moment's nanoseconds are those of its date and its time of day (`civil-at`), and the other way round (`moment-at`): so
-- there is one just where they fit 64 bits.
use Rattle.std.proofs.Common.{arith}
use Rattle.alert_json.proofs.LineMoments.{civil-at, moment-at}
use Rattle.alert_json.proofs.line_moment.moment_of.Goals as goal

pub returns-in_err-nanos : goal.returns-in_err-nanos
returns-in_err-nanos c =
    rw c.from_residual-in_err-nanos.ensures (λ nanos few m.
    c.in_err-nanos.ensures nanos few (civil-at c.args.year c.args.time nanos c.in_ok-civil.civil c.in_ok-civil.ensures m))

pub returns : goal.returns
returns c = moment-at c.args.year c.args.time c.in_ok-nanos.nanos c.in_ok-civil.civil (omega arith) c.in_ok-civil.ensures c.in_ok-nanos.ensures
