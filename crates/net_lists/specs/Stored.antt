-- How variables are kept: an entry of the map in the code, seen as a name with its variable.
use Rattle.std.specs.Prelude.{ℕ, List, Vec}
use Rattle.std.specs.declared.alloc.Global.{Global}
use Rattle.net_lists.specs.declared.vars.Entry.{Entry}
use Rattle.net_lists.specs.Variables.{Variable}

-- an entry's name, with its value and whether it is fixed
abbrev pub stored : Vec ℕ Global × Entry → List ℕ × Variable
stored entry = (entry.0.items, record { value = entry.1.value.items; fixed = entry.1.fixed })
