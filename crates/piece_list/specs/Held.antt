-- Where a list with a place keeps its elements: one in itself, a few in a row, or any number in nodes.
use Rattle.piece_list.specs.Pieces.{Pieces}
use Rattle.piece_list.specs.declared.list.Held.{Held}
use Rattle.piece_list.specs.declared.list.Held.TheVariants.{One, Few, Many}

module _ {T : Type 0} where
  -- what is seen of the list, wherever its elements are
  abbrev pub pieces_in : Held T → Pieces T
  pieces_in (One pieces) = pieces
  pieces_in (Few pieces) = pieces
  pieces_in (Many pieces) = pieces
