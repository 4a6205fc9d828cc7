-- Both ends of a line, each a word of it.
use Rattle.std.specs.Prelude.{◌≡◌, ℕ, Bool, List, ◌∷◌, ◌++◌, is_some, decimal}
use Rattle.edge_io.specs.declared.address.Addr.{Addr}
use Rattle.alert_fast.specs.declared.told.LineEnds.{LineEnds}
use Rattle.alert_fast.specs.Line.{address_text, port_text}
use Rattle.alert_fast.specs.Told.{IsAddr, AreEnds, first_port, second_port}
use Rattle.alert_fast.specs.Words.{IsPort}

-- an address and its port
abbrev pub IsPorted : Addr × ℕ → Type 0
IsPorted end = IsAddr end.0 × IsPort end.1

abbrev pub ported_text : Addr × ℕ → List ℕ
ported_text end = address_text end.0 ++ (58 ∷ decimal end.1)

-- the words of both ends
abbrev pub source_text : LineEnds → List ℕ
source_text ends = address_text ends.src ++ port_text (first_port ends.ports)

abbrev pub target_text : LineEnds → List ℕ
target_text ends = address_text ends.dst ++ port_text (second_port ends.ports)

-- these two words are the ends
pub record AreWords (from to : List ℕ) (ends : LineEnds) : Type 0 where
  pub fits : AreEnds ends
  pub source : source_text ends ≡ from
  pub target : target_text ends ≡ to

-- two words are the ends, with ports or without, as it is asked for
pub record AreOwn (ported : Bool) (from to : List ℕ) (ends : LineEnds) : Type 0 where
  pub words : AreWords from to ends
  pub own : is_some ends.ports ≡ ported

abbrev pub NoOwn : Bool → List ℕ → List ℕ → Type 0
NoOwn ported from to = (other : LineEnds) → AreWords from to other → is_some other.ports ≡ ported → ⊥

-- as it is asked for wherever they can be read so
pub record AreRead (ported : Bool) (from to : List ℕ) (ends : LineEnds) : Type 0 where
  pub words : AreWords from to ends
  pub preferred : (other : LineEnds) → AreWords from to other → is_some other.ports ≡ ported → is_some ends.ports ≡ ported

abbrev pub NoEnds : List ℕ → List ℕ → Type 0
NoEnds from to = (other : LineEnds) → AreWords from to other → ⊥
