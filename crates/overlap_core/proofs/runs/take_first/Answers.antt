-- The room in `out` is made first, so the first piece is moved there without fail, and then the others are raised.
use Rattle.std.proofs.Common.{◌∷◌, [], ◌++◌, ap, ◌∙◌}
use Rattle.overlap_core.specs.Joined.{run_of}
use Rattle.overlap_core.specs.Rows.{raised}
use Rattle.overlap_core.proofs.runs.take_first.Goals as goal

pub returns-clause-ok : goal.returns-clause-ok
returns-clause-ok c = λ first rest is.
    let moved = c.move_first.ensures first rest is in (
      c.raise.ensures ∙ ap (raised c.args.below) moved.0,
      moved.1 ∙ ap (λ runs. runs ++ run_of first ∷ []) c.in_ok-reserve.ensures.items,
    )
