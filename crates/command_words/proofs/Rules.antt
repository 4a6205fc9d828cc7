-- The arguments of the command, found by letter, name and id; one use of an argument.
use Rattle.std.proofs.Common.{◌≡◌, ◌∙◌, ◌&&◌, ◌||◌, ℕ, Bool, cond, true, false, not, refl, sym, ap, subst, List, [], ◌∷◌, ◌++◌, map, Option, Some, None, codes, append-nil, true≢false}
use Rattle.std.specs.Prelude.{option_and_then, option_map, find, is_some, unwrap_or}
use Rattle.std.specs.Str.{bytes_eq}
use Rattle.clap.specs.Walk.{Held, Row, Rule, Text, arg_by_id, arg_by_index, arg_by_long, arg_by_short, at_row, has_long, has_row, has_short, more_values, settled, used, without}
use Rattle.clap.specs.Simple.{filled}
use Rattle.clap.specs.Faults.{react_fault, settle_fault, use_fault}
use Rattle.clap.specs.Kinds.{Kinds, or_else}
use Rattle.clap.specs.declared.builder.value_parser.Reading.TheVariants.{AsWritten}
use Rattle.clap.specs.declared.parser.matches.ValueSource.TheVariants.{CommandLine}
use Rattle.clap.proofs.WalkLemmas.{find-map}
use Rattle.edge_io.specs.OnOption.{◌>>=◌}
use Rattle.command_words.specs.Table.{Choice, Label, letter, name, is_letter, is_name, text_of}
use Rattle.command_words.specs.Uses.{Use}
use Rattle.command_words.specs.Clap.{rule_for}

-- nothing where a kind of error comes before it
abbrev pub guard : {X : Type 0} → Kinds → Option X → Option X
guard [] value = value
guard (k ∷ ks) value = None

pub guard-or_else : {X : Type 0} (a b : Kinds) (value : Option X) → guard (or_else a b) value ≡ guard a (guard b value)
guard-or_else [] b value = refl
guard-or_else (k ∷ ks) b value = refl

abbrev nothing : {A B : Type 0} → A → Option B
nothing x = None

pub bind-none : {A B : Type 0} (value : Option A) → option_and_then (nothing {A = A} {B = B}) value ≡ None
bind-none None = refl
bind-none (Some x) = refl

pub guard-bind : {A B : Type 0} (a : Kinds) (value : A) (next : A → Option B) → (guard a (Some value) >>= next) ≡ guard a (next value)
guard-bind [] value next = refl
guard-bind (k ∷ ks) value next = refl

-- an option or flag as the built command has it
abbrev pub rule : Choice → Rule
rule choice = filled (rule_for choice)

abbrev pub rules : List Choice → List Rule
rules known = map rule known

-- ---- finding

or_false : (b : Bool) → (b || false) ≡ b
or_false true = refl
or_false false = refl

has_long_is : (text : Text) (label : Label) (takes : Bool)
    → (not (is_some (rule (record { label = label; takes_value = takes })).index) &&
    has_long (rule (record { label = label; takes_value = takes })) text) ≡
    is_name text label
has_long_is text (letter x) takes = refl
has_long_is text (name other) takes = or_false (bytes_eq other text)

has_short_is : (x : ℕ) (label : Label) (takes : Bool)
    → (not (is_some (rule (record { label = label; takes_value = takes })).index) &&
    has_short (rule (record { label = label; takes_value = takes })) x) ≡
    is_letter x label
has_short_is x (letter y) takes = or_false _
has_short_is x (name other) takes = refl

pub by_long : (known : List Choice) (text : Text) → arg_by_long (rules known) text ≡ option_map rule (find (λ choice. is_name text choice.label) known)
by_long known text =
    sym (find-map (λ (a : Rule). not (is_some a.index) && has_long a text) rule known)
    ∙ (λ i. option_map rule (find (λ (choice : Choice). has_long_is text choice.label choice.takes_value i) known))

pub by_short : (known : List Choice) (x : ℕ) → arg_by_short (rules known) x ≡ option_map rule (find (λ choice. is_letter x choice.label) known)
by_short known x =
    sym (find-map (λ (a : Rule). not (is_some a.index) && has_short a x) rule known)
    ∙ (λ i. option_map rule (find (λ (choice : Choice). has_short_is x choice.label choice.takes_value i) known))

pub by_index : (known : List Choice) (i : ℕ) → arg_by_index (rules known) i ≡ None
by_index [] i = refl
by_index (choice ∷ known) i = by_index known i

-- the command finds this option or flag by its id
abbrev pub IsFound : List Choice → Choice → Type 0
IsFound known choice = arg_by_id (rules known) (text_of choice.label) ≡ Some (rule choice)

abbrev pub AllFound : List Choice → List Choice → Type 0
AllFound known [] = Unit {0}
AllFound known (choice ∷ rest) = IsFound known choice × AllFound known rest

pub found_is : (known : List Choice) (p : Choice → Bool) (choices : List Choice) (choice : Choice) → AllFound known choices → find p choices ≡ Some choice → IsFound known choice
found_is known p [] choice all e = absurd (true≢false (sym (ap is_some e)))
found_is known p (x ∷ xs) choice all e = go (p x) (found_is known p xs choice all.1) e
  where
    go : (b : Bool) → (find p xs ≡ Some choice → IsFound known choice) → cond b (Some x) (find p xs) ≡ Some choice → IsFound known choice
    go true more e = subst (IsFound known) (ap (λ (o : Option Choice). unwrap_or o x) e) all.0
    go false more e = more e

-- ---- rows

-- the row of one use
abbrev pub row_for : Use → Row
row_for use_here = record { id = use_here.label; values = use_here.value ∷ []; count = None; source = Some CommandLine; reading = AsWritten }

-- the rows with one more use, if none has its id
abbrev pub add : Use → List Row → Option (List Row)
add use_here rows = cond (has_row use_here.label rows) None (Some (rows ++ row_for use_here ∷ []))

abbrev pub add_all : List Use → List Row → Option (List Row)
add_all [] rows = Some rows
add_all (use_here ∷ uses) rows = add use_here rows >>= add_all uses

pub at_end : (id : Text) (change : Row → List Row) (missing rows : List Row) → has_row id rows ≡ false → at_row id change missing rows ≡ rows ++ missing
at_end id change missing [] none = refl
at_end id change missing (r ∷ rows) none = go (bytes_eq r.id id) (at_end id change missing rows) none
  where
    go : (b : Bool) → (has_row id rows ≡ false → at_row id change missing rows ≡ rows ++ missing) → (b || has_row id rows) ≡ false
        → cond b (change r ++ rows) (r ∷ at_row id change missing rows) ≡ r ∷ (rows ++ missing)
    go true more none = absurd (true≢false none)
    go false more none = ap (λ rest. r ∷ rest) (more none)

appended : (id : Text) (change : Row → List Row) (missing rows : List Row) → has_row id rows ≡ false → at_row id change missing (without id rows) ≡ rows ++ missing
appended id change missing rows none =
    ap (at_row id change missing) (at_end id (λ _. []) [] rows none ∙ append-nil rows) ∙ at_end id change missing rows none

-- ---- one use

-- a value of an option
pub option_used : {X : Type 0} (label : Label) (value : Text) (rows : List Row) (next : List Row → Option X)
    → guard (use_fault false (rule (record { label = label; takes_value = true })) (value ∷ []) rows) (next (used (rule (record { label = label; takes_value = true })) (value ∷ []) rows))
    ≡ (add (record { label = text_of label; value = value }) rows >>= next)
option_used {X} label value rows next = go (has_row (text_of label) rows) refl
  where
    go : (b : Bool) → has_row (text_of label) rows ≡ b
        → guard (use_fault false (rule (record { label = label; takes_value = true })) (value ∷ []) rows) (next (used (rule (record { label = label; takes_value = true })) (value ∷ []) rows))
        ≡ (add (record { label = text_of label; value = value }) rows >>= next)
    go true is = rw is refl
    go false is = rw is (ap next (appended (text_of label) (more_values CommandLine (value ∷ [])) (row_for (record { label = text_of label; value = value }) ∷ []) rows is))

-- a flag
pub flag_used : {X : Type 0} (label : Label) (rows : List Row) (next : List Row → Option X)
    → guard (use_fault false (rule (record { label = label; takes_value = false })) [] rows) (next (used (rule (record { label = label; takes_value = false })) [] rows))
    ≡ (add (record { label = text_of label; value = codes "true" }) rows >>= next)
flag_used {X} label rows next = go (has_row (text_of label) rows) refl
  where
    go : (b : Bool) → has_row (text_of label) rows ≡ b
        → guard (use_fault false (rule (record { label = label; takes_value = false })) [] rows) (next (used (rule (record { label = label; takes_value = false })) [] rows))
        ≡ (add (record { label = text_of label; value = codes "true" }) rows >>= next)
    go true is = rw is refl
    go false is = rw is (ap next (appended (text_of label) (more_values CommandLine (codes "true" ∷ [])) (row_for (record { label = text_of label; value = codes "true" }) ∷ []) rows is))

-- ---- what waits is used

-- the rows with what waits used, if it may be
abbrev pub settle : List Rule → Held → Option (List Row)
settle c h = guard (settle_fault c false h) (Some (settled c h).rows)

pub reacted_is : {X : Type 0} (c : List Rule) (a : Rule) (values : List Text) (h : Held) (next : List Row → Option X)
    → guard (react_fault c false a values h) (next (used a values (settled c h).rows))
    ≡ (settle c h >>= λ rows. guard (use_fault false a values rows) (next (used a values rows)))
reacted_is c a values h next =
    guard-or_else (settle_fault c false h) (use_fault false a values (settled c h).rows) (next (used a values (settled c h).rows))
    ∙ sym (guard-bind (settle_fault c false h) (settled c h).rows (λ rows. guard (use_fault false a values rows) (next (used a values rows))))
