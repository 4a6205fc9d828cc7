-- `word_with` changes one bit of one word, and all others of the 1024 are as they were (`set_in-changed`).
use Rattle.std.proofs.Common.{ap, ◌∙◌, arith}
use Rattle.flowbit_state.specs.Changes.{changed}
use Rattle.flowbit_state.proofs.WordLaws.{set_in-changed, is_set-slice_set}
use Rattle.flowbit_state.proofs.words.BitWords.apply.Goals as goal

pub returns : goal.returns
returns c =
    set_in-changed c.self.inside.words _ c.args.change c.args.bit c.requires (λ other low.
    is_set-slice_set c.self.inside.words c.word_with.result c.args.change c.args.bit other (omega (arith, c.self.invariant)) c.word_with.ensures)
    ∙ ap (changed c.args.change c.args.bit) c.self.view_is
