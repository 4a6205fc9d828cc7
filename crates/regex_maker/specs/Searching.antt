-- What a search for an expression goes by: its working memory, and where a match can start.
use Rattle.std.specs.Prelude.{◌≡◌, true, All}
use Rattle.std.specs.Option.{ForSome}
use Rattle.regex_dfa.specs.Search.{IsForwardFor, IsReverseFor}
use Rattle.regex_dfa.specs.declared.dfa.Dfa.{Dfa}
use Rattle.regex_extract.specs.Bounds.{IsAnchored}
use Rattle.regex_extract.specs.Needles.{ContainsNeedle}
use Rattle.regex_meta.specs.Plans.{IsAdmitted}
use Rattle.regex_meta.specs.Programs.{pattern_of}
use Rattle.regex_meta.specs.declared.program.Program.{Program}
use Rattle.regex_maker.specs.declared.memory.Memory.{Memory}
use Rattle.regex_maker.specs.declared.shelf.Shelf.{Shelf}
use Rattle.regex_maker.specs.declared.sieve.MatchTests.{MatchTests}

-- the memory has states of this automaton alone
abbrev pub IsMemoryFor : Memory → Dfa → Type 0
IsMemoryFor memory dfa = IsForwardFor memory.forward dfa × IsReverseFor memory.reverse dfa

-- each slot of the shelf is for memories of this automaton
abbrev pub IsShelfFor : Shelf → Dfa → Type 0
IsShelfFor shelf dfa = All (λ kept. kept ≡ dfa) shelf.slots.items

-- what the sieve takes for granted holds of each match of the expression
pub record IsSieveFor (sieve : MatchTests) (program : Program) : Type 0 where
  pub required : ∥ ForSome sieve.required (ContainsNeedle (pattern_of program)) ∥₁
  pub ending : ∥ ForSome sieve.ending (ContainsNeedle (pattern_of program)) ∥₁
  pub admitted : ∥ ForSome sieve.ladder (IsAdmitted (pattern_of program)) ∥₁
  pub anchored : ∥ (sieve.anchored ≡ true → IsAnchored true (pattern_of program)) ∥₁
