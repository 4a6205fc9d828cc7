-- Of a command like `eve_command` (`simple`, `free`) `clap` tells the matches and the kinds of faults; an error that isn't
-- want of memory has one of these kinds, and so there are no matches.
use Rattle.std.proofs.Common.{◌≡◌, ◌∙◌, true, refl, sym, ap, map, ℕ, List, [], ◌∷◌, Some, None, inl, inr}
use Rattle.std.specs.Prelude.{string_bytes}
use Rattle.clap.specs.Faults.{fault_of, is_simple_and_free}
use Rattle.clap.specs.Kinds.{HasKind, Kinds}
use Rattle.clap.specs.Simple.{App, app_of, is_simple, matches_of}
use Rattle.clap.specs.Values.{kind_of}
use Rattle.clap.specs.Walk.{Row}
use Rattle.clap.specs.declared.error.Error.{Error}
use Rattle.clap.specs.declared.error.kind.ErrorKind.TheVariants.{OutOfMemory}
use Rattle.clap.proofs.OnLiterals.{clap_on_literals}
use Rattle.snort_eve.specs.Command.{clap_rows, eve_command, where_none}
use Rattle.snort_eve.proofs.syntax.matches.Goals as goal

simple : is_simple eve_command ≡ true
unfolding eve_command clap_on_literals
simple = refl

free : is_simple_and_free eve_command ≡ true
unfolding eve_command clap_on_literals
free = refl

refused : (kinds : Kinds) (e : Error) (rows : List Row) → HasKind kinds e → (kind_of e ≡ OutOfMemory → ⊥) → None ≡ where_none kinds rows
refused [] e rows has other = absurd (elim has [ inl memory ↦ other memory | inr among ↦ among ])
refused (k ∷ ks) e rows has other = refl

pub returns-in-Ok : goal.returns-in-Ok
unfolding clap_rows
returns-in-Ok c =
    let words : List (List ℕ) = map string_bytes c.args.words.now in
    let is : app_of c.in_ok-command.command ≡ eve_command = c.in_ok-command.ensures in
    let rows = (c.in-Ok.ensures.matches (ap is_simple is ∙ simple)).0 ∙ ap (λ (a : App). matches_of a words) is in
    let none = sym (ap (λ (a : App). fault_of a words) is) ∙ c.in-Ok.ensures.kinds (ap is_simple_and_free is ∙ free) in
    ap (λ (x : List Row). Some x) rows ∙ sym (ap (λ (kinds : Kinds). where_none kinds (matches_of eve_command words)) none)

pub returns : goal.returns
unfolding clap_rows
returns c =
    let words : List (List ℕ) = map string_bytes c.args.words.now in
    let is : app_of c.in_ok-command.command ≡ eve_command = c.in_ok-command.ensures in
    refused (fault_of (app_of c.in_ok-command.command) words) c.in-Err.error (matches_of eve_command words)
    (c.in-Err.ensures.kinds (ap is_simple_and_free is ∙ free)) (λ memory. c.in_default.not-OutOfMemory (c.kind.ensures ∙ memory))
    ∙ ap (λ (a : App). where_none (fault_of a words) (matches_of eve_command words)) is
