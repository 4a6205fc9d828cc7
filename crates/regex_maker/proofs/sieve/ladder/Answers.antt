-- The ladder admits every place at which the program's states find a match, and so each match (`run-attempt`).
use Rattle.std.proofs.Common.{◌∙◌}
use Rattle.regex_levels.specs.Beginnings.{AdmitsMatches}
use Rattle.regex_meta.proofs.ProgramLemmas.{run-attempt}
use Rattle.regex_maker.proofs.Sieves.{of_some}
use Rattle.regex_maker.proofs.sieve.ladder.Goals as goal

pub returns : goal.returns
returns c =
    let program = c.args.program.now in
    ∣ (λ ladder is bytes i t found.
    of_some (AdmitsMatches program.dfa.nfa) c.in_ok-ladder.field-0 c.in_ok-ladder.ensures ladder is bytes i t (run-attempt program bytes i ∙ found)) ∣₁
