-- An empty text has no group, and any other has those that are read between its colons.
use Rattle.std.proofs.Common.{◌∙◌, arith}
use Rattle.std.proofs.lemmas.Bool.Decides.{nat_tests}
use Rattle.net_lists.proofs.Addresses.HexGroups.{groups-empty, groups-some}
use Rattle.net_lists.proofs.address6.eight_groups.Goals as goal

pub returns-then-is_empty-clause-value : goal.returns-then-is_empty-clause-value
returns-then-is_empty-clause-value c = groups-empty c.args.text.now (grind (arith, nat_tests, c.if-is_empty.true, c.is_empty.ensures))

pub returns-clause-value : goal.returns-clause-value
returns-clause-value c = c.joined_groups.ensures.value ∙ groups-some c.args.text.now (grind (arith, nat_tests, c.if-is_empty.false, c.is_empty.ensures))
