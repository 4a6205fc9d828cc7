-- The fold over the parts is the fold over the comma parts of the value.
use Rattle.std.proofs.Common.{◌∙◌, ap}
use Rattle.net_lists.specs.Folds.{draft_after}
use Rattle.rule_parser.specs.Flags.{flow_word, no_flow}
use Rattle.rule_parser.proofs.flags.flow_words.Goals as goal

pub returns : goal.returns
returns c =
    c.fold_by.ensures ∙ ap (λ flow. draft_after flow_word flow c.commas.result) c.no_flow.ensures ∙ ap (λ parts. draft_after flow_word no_flow parts) c.commas.ensures
