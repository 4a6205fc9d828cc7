-- What clap's rows say that the words gave is what the uses say: a default is no text that was given.
use Rattle.std.proofs.Common.{◌≡◌, ◌∙◌, ◌&&◌, ◌||◌, Bool, cond, true, false, not, refl, sym, ap, ap₂, List, [], ◌∷◌, ◌++◌, map, drop, Option, Some, None, codes}
use Rattle.std.specs.Prelude.{option_and_then, option_map, find, is_some}
use Rattle.std.specs.Str.{bytes_eq}
use Rattle.std.specs.List.{list_any}
use Rattle.std.proofs.lemmas.Slice.Eq.{bytes_eq-Decides}
use Rattle.clap.specs.Walk.{Row, Rule, Text, default_rows, has_row, more_values, reading_by, with_default}
use Rattle.clap.specs.declared.parser.matches.ValueSource.TheVariants.{DefaultValue}
use Rattle.clap.proofs.WalkLemmas.{list_any-map}
use Rattle.edge_io.specs.OnOption.{◌>>=◌}
use Rattle.command_words.specs.Table.{Choice, Label, table, text_of}
use Rattle.command_words.specs.Uses.{Use, uses_of, value_in}
use Rattle.command_words.specs.Clap.{asked_in, clap_rows, given_in, given_text, others_in}
use Rattle.command_words.specs.CommandLine.{asked_by, command_line, has_others, may_be_beside}
use Rattle.command_words.proofs.Rules.{at_end, row_for, rule}
use Rattle.command_words.proofs.Rows.{rows_are, with_defaults}
use Rattle.command_words.proofs.Whole.{AllText}

-- ---- the rows of uses

first_in : (uses : List Use) (label : Text) → given_in (map row_for uses) label ≡ value_in uses label
first_in [] label = refl
first_in (use_here ∷ uses) label = go (bytes_eq use_here.label label) (first_in uses label)
  where
    go : (b : Bool) → given_in (map row_for uses) label ≡ value_in uses label
        → option_and_then given_text (cond b (Some (row_for use_here)) (find (λ r. bytes_eq r.id label) (map row_for uses)))
        ≡ option_map (λ u. u.value) (cond b (Some use_here) (find (λ u. bytes_eq u.label label) uses))
    go true more = refl
    go false more = more

-- ---- the defaults

-- a row after the others that is no given one
given_after : (label : Text) (rows : List Row) (new_row : Row) → given_text new_row ≡ None → given_in (rows ++ new_row ∷ []) label ≡ given_in rows label
given_after label [] new_row lacks = go (bytes_eq new_row.id label)
  where
    go : (b : Bool) → option_and_then given_text (cond b (Some new_row) None) ≡ None
    go true = lacks
    go false = refl
given_after label (r ∷ rows) new_row lacks = go (bytes_eq r.id label) (given_after label rows new_row lacks)
  where
    go : (b : Bool) → given_in (rows ++ new_row ∷ []) label ≡ given_in rows label
        → option_and_then given_text (cond b (Some r) (find (λ x. bytes_eq x.id label) (rows ++ new_row ∷ [])))
        ≡ option_and_then given_text (cond b (Some r) (find (λ x. bytes_eq x.id label) rows))
    go true more = refl
    go false more = more

-- no row has the label
no_row : (label : Text) (rows : List Row) → has_row label rows ≡ false → given_in rows label ≡ None
no_row label [] none = refl
no_row label (r ∷ rows) none = go (bytes_eq r.id label) (no_row label rows) none
  where
    go : (b : Bool) → (has_row label rows ≡ false → given_in rows label ≡ None) → (b || has_row label rows) ≡ false
        → option_and_then given_text (cond b (Some r) (find (λ x. bytes_eq x.id label) rows)) ≡ None
    go true more none = absurd cc
    go false more none = more none

abbrev flag_rule : Label → Rule
flag_rule label = rule (record { label = label; takes_value = false })

-- the row of a flag that is not there
abbrev default_row : Label → Row
default_row label = record { id = text_of label; values = codes "false" ∷ []; count = None; source = Some DefaultValue; reading = reading_by (flag_rule label) }

same_rows : (b : Bool) (rows : List Row) → cond b rows rows ≡ rows
same_rows true rows = refl
same_rows false rows = refl

-- what a default adds to the rows: nothing, or one row of a label that has none
add_default : {X : Type 0} (view : List Row → X) (own : Label) (takes : Bool) (rows : List Row)
    → (has_row (text_of own) rows ≡ false → view (rows ++ default_row own ∷ []) ≡ view rows)
    → view (with_default rows (rule (record { label = own; takes_value = takes }))) ≡ view rows
add_default view own true rows same = ap view (same_rows (has_row (text_of own) rows) rows)
add_default view own false rows same = go (has_row (text_of own) rows) refl
  where
    go : (b : Bool) → has_row (text_of own) rows ≡ b
        → view (cond b rows (default_rows (text_of own) (reading_by (flag_rule own)) (codes "false" ∷ []) rows)) ≡ view rows
    go true is = refl
    go false is =
        ap view (at_end (text_of own) (more_values DefaultValue (codes "false" ∷ [])) (default_row own ∷ []) rows is) ∙ same is

given_kept : (choice : Choice) (rows : List Row) (label : Text) → given_in (with_default rows (rule choice)) label ≡ given_in rows label
given_kept choice rows label =
    add_default (λ rs. given_in rs label) choice.label choice.takes_value rows (λ none. given_after label rows (default_row choice.label) refl)

all_kept : (known : List Choice) (rows : List Row) (label : Text) → given_in (with_defaults known rows) label ≡ given_in rows label
all_kept [] rows label = refl
all_kept (choice ∷ known) rows label = all_kept known (with_default rows (rule choice)) label ∙ given_kept choice rows label

-- ---- others

abbrev is_other : (Text → Option Text) → Text → Bool
is_other look label = not (may_be_beside label) && is_some (look label)

abbrev any_other : (Text → Option Text) → List Row → Bool
any_other look rows = list_any (λ row. is_other look row.id) rows

any_after : (look : Text → Option Text) (rows : List Row) (new_row : Row) → look new_row.id ≡ None → any_other look (rows ++ new_row ∷ []) ≡ any_other look rows
any_after look [] new_row lacks = ap (λ (o : Option Text). (not (may_be_beside new_row.id) && is_some o) || false) lacks ∙ go (not (may_be_beside new_row.id))
  where
    go : (b : Bool) → ((b && false) || false) ≡ false
    go true = refl
    go false = refl
any_after look (r ∷ rows) new_row lacks = ap (λ (b : Bool). is_other look r.id || b) (any_after look rows new_row lacks)

others_kept : (known : List Choice) (look : Text → Option Text) (rows : List Row) → ((label : Text) → given_in rows label ≡ look label)
    → any_other look (with_defaults known rows) ≡ any_other look rows
others_kept [] look rows is = refl
others_kept (choice ∷ known) look rows is =
    others_kept known look (with_default rows (rule choice)) (λ label. given_kept choice rows label ∙ is label)
    ∙ add_default (any_other look) choice.label choice.takes_value rows
    (λ none. any_after look rows (default_row choice.label) (sym (is (text_of choice.label)) ∙ no_row (text_of choice.label) rows none))

-- each of these uses is seen
abbrev AllSeen : (Text → Option Text) → List Use → Type 0
AllSeen look [] = Unit {0}
AllSeen look (use_here ∷ uses) = (is_some (look use_here.label) ≡ true) × AllSeen look uses

any_seen : (look : Text → Option Text) (uses : List Use) → AllSeen look uses → list_any (λ u. is_other look u.label) uses ≡ has_others uses
any_seen look [] seen = refl
any_seen look (use_here ∷ uses) seen =
    ap₂ (λ (here : Bool) (following : Bool). here || following)
    (ap (λ (b : Bool). not (may_be_beside use_here.label) && b) seen.0 ∙ go (not (may_be_beside use_here.label))) (any_seen look uses seen.1)
  where
    go : (b : Bool) → (b && true) ≡ b
    go true = refl
    go false = refl

seen_after : (use_here : Use) (uses some : List Use) → AllSeen (value_in uses) some → AllSeen (value_in (use_here ∷ uses)) some
seen_after use_here uses [] seen = tt
seen_after use_here uses (u ∷ some) seen = (go (bytes_eq use_here.label u.label) seen.0, seen_after use_here uses some seen.1)
  where
    go : (b : Bool) → is_some (value_in uses u.label) ≡ true
        → is_some (option_map (λ v. v.value) (cond b (Some use_here) (find (λ v. bytes_eq v.label u.label) uses))) ≡ true
    go true is = refl
    go false is = is

all_seen : (uses : List Use) → AllSeen (value_in uses) uses
all_seen [] = tt
all_seen (use_here ∷ uses) = (
  ap (λ (b : Bool). is_some (option_map (λ v. v.value) (cond b (Some use_here) (find (λ v. bytes_eq v.label use_here.label) uses))))
      ((bytes_eq-Decides use_here.label use_here.label).1 refl),
  seen_after use_here uses uses (all_seen uses),
)

-- ---- all of the words

module _ (uses : List Use) where
  abbrev rows : List Row
  rows = with_defaults table (map row_for uses)

  given_are : (label : Text) → given_in rows label ≡ value_in uses label
  given_are label = all_kept table (map row_for uses) label ∙ first_in uses label

  others_are : others_in rows ≡ has_others uses
  others_are =
      sym (list_any-map (λ (label : Text). is_other (given_in rows) label) (λ (row : Row). row.id) rows)
      ∙ (λ i. any_other (λ label. given_are label i) rows)
      ∙ others_kept table (value_in uses) (map row_for uses) (first_in uses)
      ∙ sym (list_any-map (λ (row : Row). is_other (value_in uses) row.id) row_for uses)
      ∙ any_seen (value_in uses) uses (all_seen uses)

  asked_are : asked_in rows ≡ asked_by (value_in uses) (has_others uses)
  asked_are = λ i. asked_by (λ label. given_are label i) (others_are i)

-- what the words ask for, by clap's rows
pub command_is : (words : List Text) → AllText (drop 1 words) → (clap_rows words >>= asked_in) ≡ command_line words
unfolding command_line
command_is words text = ap (λ (rows : Option (List Row)). rows >>= asked_in) (rows_are words text) ∙ go (uses_of table (drop 1 words))
  where
    go : (uses : Option (List Use)) → (option_map (λ u. with_defaults table (map row_for u)) uses >>= asked_in)
        ≡ (uses >>= λ u. asked_by (value_in u) (has_others u))
    go None = refl
    go (Some uses) = asked_are uses
