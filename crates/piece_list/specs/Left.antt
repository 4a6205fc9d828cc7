-- What an iterator has left.
use Rattle.std.specs.Prelude.{List, option_to_list, option_copied}
use Rattle.piece_list.specs.declared.iter.IterLeft.{IterLeft}
use Rattle.piece_list.specs.declared.iter.IterLeft.TheVariants.{One, Few, Many}

module _ {T : Type 0} where
  -- one element at most, the rest of a row, or that of a ring's values
  abbrev pub left_in : IterLeft T → List T
  left_in (One element) = option_to_list (option_copied element)
  left_in (Few rest) = rest.now
  left_in (Many rest) = rest
