-- A variable that the words define has a name.
use Rattle.std.proofs.Common.{◌≡◌, ℕ, Bool, true, false, not, ◌&&◌, ◌==◌, List, Option, Some, None, length, refl, subst}
use Rattle.std.specs.Prelude.{⊤, codes, is_some, if◌then◌else◌}
use Rattle.std.specs.Option.{option_map, option_and_then}
use Rattle.std.proofs.lemmas.Bool.{and_parts}
use Rattle.std.proofs.lemmas.Option.{option_and_then_some, cond_some}
use Rattle.clap.specs.Walk.{Row, all_of}
use Rattle.net_lists.specs.Addresses.{cut}
use Rattle.net_lists.specs.Variables.{IsName, is_name}
use Rattle.command_words.specs.CommandLine.{Defined, maybe, named, definition}
use Rattle.snort_eve.specs.Command.{clap_rows}
use Rattle.snort_eve.specs.Asking.{AskNamed, IsNamed, Since, asked_in, asked_of, conf_with, files_of, given_in, help, if_apart, is_apart, lines, seed_of, since_in, wanted_in}

abbrev IfNamed : Option Defined → Type 0
IfNamed None = ⊤
IfNamed (Some defined) = IsName defined.name

pair_named : (name value : List ℕ) (defined : Defined) → named name value ≡ Some defined → IsName defined.name
pair_named name value defined is =
    let parts = cond_some (is_name name && not (length value == 0)) _ defined is in
    let P : Defined → Type 0 = λ d. IsName d.name in
    subst P parts.1 (and_parts (is_name name) (not (length value == 0)) parts.0).0

definition_named : (text : List ℕ) (defined : Defined) → definition text ≡ Some defined → IsName defined.name
definition_named text defined is =
    option_and_then_some (λ (parts : List ℕ × List ℕ). named parts.0 parts.1) (cut 61 text) defined is
    (λ parts found says. pair_named parts.0 parts.1 defined says)

maybe_named : (text : Option (List ℕ)) (defined : Option Defined) → maybe definition text ≡ Some defined → IfNamed defined
maybe_named text None is = tt
maybe_named None (Some defined) is = absurd cc
maybe_named (Some text) (Some defined) is = by_read (definition text) refl is
  where
    by_read : (read : Option Defined) → definition text ≡ read → option_map Some read ≡ Some (Some defined) → IsName defined.name
    by_read None from found = absurd cc
    by_read (Some own) from found =
        let same : own ≡ defined = cc in
        let P : Defined → Type 0 = λ d. IsName d.name in
        subst P same (definition_named text own from)

conf_named : (name : Option (List ℕ)) (defined : Option Defined) → IfNamed defined → IsNamed (option_map (conf_with defined) name)
conf_named None defined is = tt
conf_named (Some name) None is = tt
conf_named (Some name) (Some defined) is = is

apart_named : (rows : List Row) (seed : ℕ) (defined : Option Defined) (since : Option Since) → IfNamed defined → AskNamed (if_apart (wanted_in rows seed defined since))
apart_named rows seed defined since is = by (is_apart since (files_of (all_of (codes "FILE") rows)))
  where
    by : (apart : Bool) → AskNamed (if apart then Some (lines (wanted_in rows seed defined since)) else None)
    by true = conf_named (given_in rows (codes "c")) defined is
    by false = tt

by_help : (rows : List Row) (on : Bool) (seed : Option ℕ) (defined : Option (Option Defined)) (since : Option (Option Since)) → ((d : Option Defined) → defined ≡ Some d → IfNamed d)
    → AskNamed (if on then Some help else option_and_then (λ (s : ℕ). option_and_then (λ (d : Option Defined).
    option_and_then (λ (o : Option Since). if_apart (wanted_in rows s d o)) since) defined) seed)
by_help rows true seed defined since has = tt
by_help rows false None defined since has = tt
by_help rows false (Some s) None since has = tt
by_help rows false (Some s) (Some d) None has = tt
by_help rows false (Some s) (Some d) (Some o) has = apart_named rows s d o (has d refl)

pub asked_named : (words : List (List ℕ)) → AskNamed (asked_of words)
asked_named words = by_rows (clap_rows words)
  where
    by_rows : (found : Option (List Row)) → AskNamed (option_and_then asked_in found)
    by_rows None = tt
    by_rows (Some rows) =
        by_help rows (is_some (given_in rows (codes "help"))) (seed_of (given_in rows (codes "community-id-seed")))
        (maybe definition (given_in rows (codes "S"))) (since_in rows) (maybe_named (given_in rows (codes "S")))
