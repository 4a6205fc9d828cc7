-- A name ends at the first byte that isn't in one, or at the text's end, so it is no longer than the text.
use Rattle.std.proofs.Common.{arith}
use Rattle.net_lists.proofs.Fronts.{unwrap_or-position}
use Rattle.std.proofs.lemmas.List.Sums.{prefix_len-le-length}
use Rattle.conf_parser.specs.Values.{in_name}
use Rattle.conf_parser.proofs.value.name_len.Goals as goal

pub returns-clause-len : goal.returns-clause-len
returns-clause-len c = grind (arith, unwrap_or-position in_name c.args.text.now)

pub returns-clause-within : goal.returns-clause-within
returns-clause-within c = grind (arith, unwrap_or-position in_name c.args.text.now, prefix_len-le-length in_name c.args.text.now)
