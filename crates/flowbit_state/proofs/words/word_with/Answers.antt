-- The or with the mask sets its one bit (`is_bit-or`), the and with the others unsets it (`is_bit-and`), the exclusive or
-- toggles it (`is_bit-xor`), and the other bits stay.
use Rattle.std.proofs.Common.{ap, sym, ◌∙◌}
use Rattle.std.specs.Prelude.{◌==◌, if◌then◌else◌}
use Rattle.flowbit_state.specs.Changes.{bit_after}
use Rattle.flowbit_state.specs.Words.{is_bit}
use Rattle.flowbit_state.proofs.WordLaws.{is_bit-or, is_bit-and, is_bit-xor}
use Rattle.flowbit_state.proofs.words.word_with.Goals as goal

pub returns-in-Set : goal.returns-in-Set
returns-in-Set c = λ other low.
    is_bit-or c.args.word c.args.bit other c.requires
    ∙ ap (λ change. if other == c.args.bit then bit_after change (is_bit c.args.word c.args.bit) else is_bit c.args.word other) (sym c.in-Set.is)

pub returns-in-Unset : goal.returns-in-Unset
returns-in-Unset c = λ other low.
    is_bit-and c.args.word c.args.bit other c.requires low
    ∙ ap (λ change. if other == c.args.bit then bit_after change (is_bit c.args.word c.args.bit) else is_bit c.args.word other) (sym c.in-Unset.is)

pub returns-in-Toggle : goal.returns-in-Toggle
returns-in-Toggle c = λ other low.
    is_bit-xor c.args.word c.args.bit other c.requires
    ∙ ap (λ change. if other == c.args.bit then bit_after change (is_bit c.args.word c.args.bit) else is_bit c.args.word other) (sym c.in-Toggle.is)
