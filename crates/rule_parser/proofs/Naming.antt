-- An answer beside names that no option changes.
use Rattle.std.proofs.Common.{ℕ, ◌≤◌, Result, Ok, Err, List, sym, ◌∙◌, ap, length, take, length-take, arith}
use Rattle.std.proofs.lemmas.List.{take_all, take-take}
use Rattle.net_lists.specs.Stops.{Gives}
use Rattle.net_lists.specs.declared.stop.Stop.{Stop}
use Rattle.net_lists.specs.declared.stop.Stop.TheVariants.{NoMemory, Wrong}
use Rattle.rule_parser.specs.declared.draft.RuleDraft.{RuleDraft}
use Rattle.rule_parser.specs.declared.fault.Fault.{Fault}
use Rattle.rule_parser.specs.Bits.{GivesWith, Begins}
use Rattle.rule_parser.specs.Flowbits.{with_names}

pub gives_with : (names : List (List ℕ)) (answer : Result RuleDraft (Stop Fault)) (meant : Result RuleDraft Fault) → Gives answer meant → GivesWith answer names (with_names names meant)
gives_with names (Ok draft) meant e = ap (with_names names) e
gives_with names (Err NoMemory) meant e = e
gives_with names (Err (Wrong why)) meant e = ap (with_names names) e

pub begins_same : (names : List (List ℕ)) → Begins names names
begins_same names = take_all (length names) names (omega arith)

pub ruleset naming = (gives_with, begins_same)

-- the names before are in front of those after two steps
pub begins_begins : (first second third : List (List ℕ)) → Begins first second → Begins second third → Begins first third
begins_begins first second third a b =
    let within : length first ≤ length second = omega (arith, ap length a, length-take (length first) second) in
    sym (take-take (length first) (length second) third within) ∙ ap (take (length first)) b ∙ a
