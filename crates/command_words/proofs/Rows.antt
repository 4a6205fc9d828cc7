-- The rows that clap has at the end are those of the uses, with the defaults of the flags.
use Rattle.std.proofs.Common.{◌≡◌, ◌∙◌, ◌||◌, Bool, cond, true, false, refl, sym, ap, ap₂, List, [], ◌∷◌, ◌++◌, map, drop, Option, Some, None, fold}
use Rattle.std.specs.Prelude.{String, option_map, string_bytes}
use Rattle.std.specs.Str.{bytes_eq}
use Rattle.std.proofs.lemmas.Str.{IsUtf8-had}
use mathlib.Core.List.{map-append}
use Rattle.clap.specs.Walk.{Held, Row, Text, finished, has_row, idle, nothing_held, rows_after, settled, walked, with_default}
use Rattle.clap.specs.Simple.{Shape, built, matches_of}
use Rattle.clap.specs.Faults.{check_fault, default_fault, defaults_fault, fault_of, level_fault, settle_fault, walk_fault}
use Rattle.clap.specs.Kinds.{Kinds, or_else}
use Rattle.clap.proofs.FaultLemmas.{leaf_fault}
use Rattle.clap.proofs.WalkLemmas.{list_any-map}
use Rattle.edge_io.specs.OnOption.{◌>>=◌}
use Rattle.command_words.specs.Table.{Choice, Label, table, text_of}
use Rattle.command_words.specs.Uses.{Use, is_used, used_once, uses_in, uses_of}
use Rattle.command_words.specs.Clap.{clap_rows, snort, where_none}
use Rattle.command_words.proofs.Rules.{AllFound, add_all, guard, guard-or_else, row_for, rule, rules, settle}
use Rattle.command_words.proofs.Steps.{held}
use Rattle.command_words.proofs.Turns.{at, ending, shape}
use Rattle.command_words.proofs.Whole.{AllText, ends}

-- ---- the rows of uses

rows_used : (uses before : List Use) → add_all uses (map row_for before) ≡ option_map (map row_for) (used_once before uses)
rows_used [] before = refl
rows_used (use_here ∷ uses) before =
    ap (λ (b : Bool). cond b None (Some (map row_for before ++ row_for use_here ∷ [])) >>= add_all uses)
    (sym (list_any-map (λ (r : Row). bytes_eq r.id use_here.label) row_for before))
    ∙ go (is_used use_here.label before) (rows_used uses (before ++ use_here ∷ []))
  where
    go : (b : Bool) → add_all uses (map row_for (before ++ use_here ∷ [])) ≡ option_map (map row_for) (used_once (before ++ use_here ∷ []) uses)
        → (cond b None (Some (map row_for before ++ row_for use_here ∷ [])) >>= add_all uses)
        ≡ option_map (map row_for) (cond b None (used_once (before ++ use_here ∷ []) uses))
    go true more = refl
    go false more = ap (add_all uses) (sym (map-append row_for before (use_here ∷ []))) ∙ more

all_rows_used : (uses : Option (List Use)) → (uses >>= λ found. add_all found []) ≡ option_map (map row_for) (uses >>= used_once [])
all_rows_used None = refl
all_rows_used (Some uses) = rows_used uses []

-- ---- after the walk: each default has its form, and nothing is wanted

none_either : (b : Bool) (kinds : Kinds) → cond b kinds kinds ≡ kinds
none_either true kinds = refl
none_either false kinds = refl

default_is_valid : (label : Label) (takes : Bool) (rows : List Row) → default_fault rows (rule (record { label = label; takes_value = takes })) ≡ []
default_is_valid label true rows = none_either (has_row (text_of label) rows || true) []
default_is_valid label false rows = none_either (has_row (text_of label) rows || false) []

defaults_are_valid : (known : List Choice) (rows : List Row) → defaults_fault rows (rules known) ≡ []
unfolding defaults_fault
defaults_are_valid [] rows = refl
defaults_are_valid (choice ∷ known) rows =
    ap (λ (kinds : Kinds). or_else kinds (defaults_fault (with_default rows (rule choice)) (rules known))) (default_is_valid choice.label choice.takes_value rows)
    ∙ defaults_are_valid known (with_default rows (rule choice))

guard_map : {X Y : Type 0} (f : X → Y) (kinds : Kinds) (value : Option X) → option_map f (guard kinds value) ≡ guard kinds (option_map f value)
guard_map f [] value = refl
guard_map f (k ∷ ks) value = refl

where_guard : {X : Type 0} (kinds : Kinds) (value : X) → where_none kinds value ≡ guard kinds (Some value)
where_guard [] value = refl
where_guard (k ∷ ks) value = refl

abbrev pub with_defaults : List Choice → List Row → List Row
with_defaults known rows = fold with_default rows (rules known)

abbrev last : List Choice → List Text → Held
last known words = (fold (walked (rules known) []) (at (held [] None) idle false) words).held

level_is : (known : List Choice) (words : List Text) → ((rows : List Row) → check_fault (shape known) rows false ≡ [])
    → guard (level_fault (shape known) [] nothing_held words false []) (Some (with_defaults known (settled (rules known) (last known words)).rows))
    ≡ option_map (with_defaults known) (ending known (at (held [] None) idle false) words)
level_is known words checked =
    let walking : Kinds = walk_fault (shape known) [] (at (held [] None) idle false) words in
    let settling : Kinds = settle_fault (rules known) false (last known words) in
    let rows : List Row = (settled (rules known) (last known words)).rows in
    let following : Kinds = or_else (defaults_fault rows (rules known)) (check_fault (shape known) (finished (rules known) (last known words)) false) in
    let whole : Option (List Row) = Some (with_defaults known rows) in
    guard-or_else walking (or_else settling following) whole
    ∙ ap (guard walking) (guard-or_else settling following whole
    ∙ ap (λ (kinds : Kinds). guard settling (guard kinds whole)) (ap₂ or_else (defaults_are_valid known rows) (checked (finished (rules known) (last known words)))))
    ∙ sym (guard_map (with_defaults known) walking (settle (rules known) (last known words))
    ∙ ap (guard walking) (guard_map (with_defaults known) settling (Some rows)))

-- ---- the table

top_is : (built snort).top ≡ shape table
unfolding snort
top_is = refl

fault_is : (words : List Text) → fault_of snort words ≡ level_fault (shape table) [] nothing_held (drop 1 words) false []
unfolding snort
fault_is words =
    leaf_fault (built snort) nothing_held (drop 1 words) refl
    ∙ ap (λ (s : Shape). level_fault s [] nothing_held (drop 1 words) false []) top_is

matches_are : (words : List Text) → matches_of snort words ≡ with_defaults table (settled (rules table) (last table (drop 1 words))).rows
unfolding snort
matches_are words = ap (λ (s : Shape). rows_after s.rules [] (drop 1 words)) top_is

clap_is : (words : List Text) → clap_rows words ≡ option_map (with_defaults table) (ending table (at (held [] None) idle false) (drop 1 words))
unfolding clap_rows
clap_is words =
    where_guard (fault_of snort words) (matches_of snort words)
    ∙ ap₂ (λ (kinds : Kinds) (rows : List Row). guard kinds (Some rows)) (fault_is words) (matches_are words)
    ∙ level_is table (drop 1 words) (λ rows. refl)

table_found : AllFound table table
table_found = (refl, (refl, (refl, (refl, (refl, (refl, (refl, (refl, (refl, (refl, (refl, (refl, (refl, (refl, (refl, (refl, (refl, (refl, (refl, (refl, tt))))))))))))))))))))

map_map : {X Y Z : Type 0} (f : X → Y) (g : Y → Z) (value : Option X) → option_map g (option_map f value) ≡ option_map (λ x. g (f x)) value
map_map f g None = refl
map_map f g (Some x) = refl

-- clap's rows are those of the uses
pub rows_are : (words : List Text) → AllText (drop 1 words)
    → clap_rows words ≡ option_map (λ uses. with_defaults table (map row_for uses)) (uses_of table (drop 1 words))
rows_are words text =
    clap_is words
    ∙ ap (option_map (with_defaults table)) ((ends table table_found (drop 1 words) text).0 [] None ∙ all_rows_used (uses_in table None (drop 1 words)))
    ∙ map_map (map row_for) (with_defaults table) (uses_of table (drop 1 words))

-- ---- the words are text

pub all_text : {Z : Type 0} (words : List (String Z)) → AllText (map string_bytes words)
all_text [] = tt
all_text (word ∷ words) = (IsUtf8-had (string_bytes word) word.ok, all_text words)

pub arguments_text : {Z : Type 0} (words : List (String Z)) → AllText (drop 1 (map string_bytes words))
arguments_text [] = tt
arguments_text (word ∷ words) = all_text words
