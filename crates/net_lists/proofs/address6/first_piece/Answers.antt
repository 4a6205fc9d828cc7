-- A text split at its colons is the bytes before the first, and
-- the pieces of what follows it; without a colon it is one piece.
use Rattle.std.proofs.Common.{◌∙◌, ◌+◌, ◌==◌, sym, ap, ◌∷◌, take}
use Rattle.std.specs.List.{slice_split}
use Rattle.std.proofs.lemmas.List.{take_rest}
use Rattle.net_lists.proofs.Addresses.HexGroups.{first_piece-some, first_piece-none}
use Rattle.net_lists.proofs.address6.first_piece.Goals as goal

pub returns-in-Some : goal.returns-in-Some
returns-in-Some c =
    let text = c.args.text.now in
    let place = c.in-Some.place in
    first_piece-some text place c.in-Some.ensures.place
    ∙ ap (λ rest. take place text ∷ slice_split (λ b. b == 58) rest) (sym (take_rest text (place + 1)))

pub returns-in-None : goal.returns-in-None
returns-in-None c = first_piece-none c.args.text.now c.in-None.ensures.place
