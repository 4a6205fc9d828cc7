-- With the place at the front, the piece that is taken out is the first, and the others are left (`first-out`).
use Rattle.std.proofs.Common.{◌∷◌, [], ◌++◌, ap, ◌∙◌}
use Rattle.overlap_core.specs.Joined.{run_of}
use Rattle.overlap_core.proofs.Joined.Single.{first-out}
use Rattle.overlap_core.proofs.runs.move_first.Goals as goal

pub returns-in-Ok : goal.returns-in-Ok
returns-in-Ok c = λ first rest is.
    let out = first-out c.args.pieces.now c.front.new.self c.remove_here.new.self c.in-Some.piece first rest _ _ is c.front.ensures c.in-Some.ensures.taken c.in-Some.ensures.left in
    (out.1, c.in-Ok.ensures.items ∙ ap (λ run. c.args.out.now.items ++ run ∷ []) (c.into_run.ensures ∙ ap run_of out.0))
