-- Options that are written one after another are cut into just these texts, so the fold over the text is the fold over them.
use Rattle.std.proofs.Common.{◌+◌, length}
use Rattle.rule_parser.specs.Drafts.{empty_draft}
use Rattle.rule_parser.proofs.Lines.CuttingLaws.{options-read}
use Rattle.rule_parser.proofs.line.rule_options.Goals as goal

pub returns-clause-written : goal.returns-clause-written
returns-clause-written c =
    options-read c.args.classes.now c.args.bits.now c.read_options.new.bits empty_draft (length c.args.inside.now + 1)
    c.args.inside.now c.read_options.result c.read_options.ensures.gives
