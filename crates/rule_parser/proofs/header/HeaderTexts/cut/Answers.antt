-- A word ends at the blank after it, so a line that is written of seven words and a rest is cut into just these.
use Rattle.rule_parser.proofs.Lines.CuttingLaws.{header-written}
use Rattle.rule_parser.proofs.header.HeaderTexts.cut.Goals as goal

pub returns-clause-written : goal.returns-clause-written
returns-clause-written c = header-written c.from_words.result c.args.line.now c.from_words.ensures
