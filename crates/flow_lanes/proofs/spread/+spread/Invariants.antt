-- A slice is cut into two parts that aren't empty, so that four times its length falls on the way from `spread` to `both`,
-- to its two closures and to `spread` again.
use Rattle.std.proofs.Common.{◌+◌, ◌-◌, ◌*◌, length}
use Rattle.flow_lanes.proofs.spread.+spread.Given as goal

abbrev pub decreases-spread : goal.decreases-spread
decreases-spread g l = 4 * length l.s.now

abbrev pub decreases-both : goal.decreases-both
decreases-both g l = 4 * (length l.front.now + length l.back.now) - 1

abbrev pub decreases-both-one : goal.decreases-both-one
decreases-both-one g l = 4 * length l.front.now + 1

abbrev pub decreases-both-other : goal.decreases-both-other
decreases-both-other g l = 4 * length l.back.now + 1
