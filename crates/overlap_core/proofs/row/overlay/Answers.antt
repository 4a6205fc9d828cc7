-- The piece that was at the place goes back there overlaid, and `next` passes it; so it is the last one before the place.
use Rattle.std.proofs.Common.{◌≡◌, [], ◌∷◌, ◌++◌, Some, None, ap, sym, subst, ◌∙◌}
use Rattle.overlap_core.specs.Pieces.{Piece}
use Rattle.overlap_core.specs.Rows.{overlaid, Between}
use Rattle.overlap_core.proofs.Rows.Places.{slice_get-between, between-inserted, between-next, between-removed}
use Rattle.overlap_core.proofs.row.overlay.Goals as goal

pub returns-in-Some-clause-list : goal.returns-in-Some-clause-list
returns-in-Some-clause-list c = λ front rest piece between.
    let taken : Some c.in-Some.piece ≡ Some piece = c.in-Some.ensures.taken ∙ slice_get-between c.args.pieces.now front rest piece between in
    let same : c.in-Some.piece ≡ piece = cc in
    let gone = between-removed c.args.pieces.now c.remove_here.new.self front rest piece _ between c.in-Some.ensures.left in
    let here = between-inserted c.remove_here.new.self c.insert_here.new.self front rest c.overlaid.result _ gone c.insert_here.ensures in
    let on = between-next c.insert_here.new.self c.next.new.self c.next.result front rest c.overlaid.result here c.next.ensures.moved c.next.ensures.place in
    let is : c.overlaid.result ≡ overlaid c.args.preference c.args.new.now piece = c.overlaid.ensures ∙ ap (overlaid c.args.preference c.args.new.now) same in
    subst (λ (p : Piece). Between c.next.new.self (front ++ p ∷ []) rest) is on

pub returns-in_default-clause-list : goal.returns-in_default-clause-list
returns-in_default-clause-list c = λ front rest piece between.
    let none : None ≡ Some piece = sym c.in_default.is ∙ c.remove_here.ensures.taken ∙ slice_get-between c.args.pieces.now front rest piece between in cc
