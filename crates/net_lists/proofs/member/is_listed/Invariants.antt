-- The verdict on all parts is that on the parts that are left.
use Rattle.std.proofs.Common.{◌≡◌, false, drop}
use Rattle.net_lists.specs.Verdicts.{verdict}
use Rattle.net_lists.proofs.member.is_listed.Given as goal

abbrev pub invariant-loop-part : goal.invariant-loop-part
invariant-loop-part g l = verdict (g.B.Ranged.has l.value) false false l.parts ≡ verdict (g.B.Ranged.has l.value) l.found l.positive (drop l.part-index l.parts)
