-- What the words of a command say is in its form: a variable that they define has a name, and numbers lie in
-- their ranges.
use Rattle.std.proofs.Common.{◌≡◌, ℕ, List, Option, Some, None}
use Rattle.std.specs.Option.{option_map}
use Rattle.command_words.specs.CommandLine.{run, Run, Defined, command_line}
use Rattle.command_words.proofs.Runs.{IsNamed, run_named, run_ranged}
use Rattle.snort_setup.specs.Words.{HasName}
use Rattle.snort_engine.specs.Course.{definition_of, setup_words}
use Rattle.snort_engine.specs.Steps.Detecting.{IsRanged}

-- the variable that the words of a run define has a name
pub command_named : (words : List (List ℕ)) (wanted : Run) → command_line words ≡ Some (run wanted) → HasName (setup_words wanted).definition
command_named words wanted is = as_setup wanted.defined (run_named words wanted is)
  where
    as_setup : (defined : Option Defined) → IsNamed defined → HasName (option_map definition_of defined)
    as_setup None is = tt
    as_setup (Some defined) is = is

-- the numbers of a run lie in their ranges
pub command_ranged : (words : List (List ℕ)) (wanted : Run) → command_line words ≡ Some (run wanted) → IsRanged wanted.lanes wanted.flush_point
command_ranged words wanted is =
    let ranged = run_ranged words wanted is in
    record { some = ranged.0.0; few = ranged.0.1; least = ranged.1.0; most = ranged.1.1 }
