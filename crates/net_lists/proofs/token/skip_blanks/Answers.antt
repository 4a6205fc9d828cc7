-- Blanks in front are no symbols, so without them the symbols are the same, and the text begins with no blank.
use Rattle.std.proofs.Common.{ap, ◌∙◌}
use Rattle.net_lists.specs.Tokens.{symbols, begins_blank}
use Rattle.net_lists.proofs.Lists.Words.{symbols-blanks, begins_blank-blanks}
use Rattle.net_lists.proofs.token.skip_blanks.Goals as goal

pub returns-clause-same : goal.returns-clause-same
returns-clause-same c = ap symbols c.without_front_blanks.ensures ∙ symbols-blanks c.args.text.now

pub returns-clause-blankless : goal.returns-clause-blankless
returns-clause-blankless c = ap begins_blank c.without_front_blanks.ensures ∙ begins_blank-blanks c.args.text.now
