-- How files are kept: an entry of the map in the code, seen as a name with its bytes.
use Rattle.std.specs.Prelude.{ℕ, List, String, Vec, string_bytes}
use Rattle.std.specs.declared.alloc.Global.{Global}

-- an entry's name and bytes
abbrev pub stored : String Global × Vec ℕ Global → List ℕ × List ℕ
stored entry = (string_bytes entry.0, entry.1.items)
