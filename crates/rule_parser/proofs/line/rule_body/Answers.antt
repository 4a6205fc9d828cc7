-- A class that the options of a rule name is one of the classes, as `finished` asks.
use Rattle.rule_parser.proofs.Lines.Reading.{options-class}
use Rattle.rule_parser.proofs.line.rule_body.Goals as goal

pub finished-requires : goal.finished-requires
finished-requires c = options-class c.args.classes.now c.args.bits.now c.rule_options.new.bits c.in_ok-draft.draft c.in-Some.inside.now c.requires c.in_ok-draft.ensures.gives
