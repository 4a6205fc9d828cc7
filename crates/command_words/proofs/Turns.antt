-- The walk over the words: clap's, which settles an option one word late, ends as the plain reading does.
use Rattle.std.proofs.Common.{◌≡◌, ◌∙◌, Bool, cond, true, false, refl, sym, ap, ap₂, List, [], ◌∷◌, Option, Some, None, codes, fold}
use Rattle.std.specs.Option.{option_map_or}
use Rattle.std.specs.Str.{bytes_eq}
use Rattle.clap.specs.Lexer.{long_of, short_of}
use Rattle.clap.specs.Walk.{Held, Row, Rule, Step, Text, Waiting, Walk, after_step, arg_by_long, idle, long_or_other, long_word, option, short_or_plain, trailing, walked}
use Rattle.clap.specs.Simple.{Shape, new_shape}
use Rattle.clap.specs.Faults.{bundle_fault, flag_word_fault, long_fault, step_fault, turn_fault, walk_fault}
use Rattle.clap.specs.Kinds.{Kinds, or_else}
use Rattle.edge_io.specs.OnOption.{◌>>=◌}
use Rattle.command_words.specs.Table.{Choice}
use Rattle.command_words.specs.Uses.{if_last}
use Rattle.command_words.proofs.Rules.{add_all, bind-none, by_index, guard, guard-or_else, rules, settle}

-- the command as built, with these options and flags
abbrev pub shape : List Choice → Shape
shape known = record (new_shape (codes "snort")) { rules = rules known; disable_help_flag = true; disable_help_subcommand = true; disable_version_flag = true; is_built = true }

abbrev pub at : Held → Waiting → Bool → Walk
at h waiting is_trailing = record { held = h; waiting = waiting; position = 1; is_trailing = is_trailing; stopped = None }

-- the rows at the end of the words, if none is at fault
abbrev pub ending : List Choice → Walk → List Text → Option (List Row)
ending known w words = guard (walk_fault (shape known) [] w words) (settle (rules known) (fold (walked (rules known) []) w words).held)

pub turned : (known : List Choice) (w : Walk) (word : Text) (rest : List Text)
    → ending known w (word ∷ rest) ≡ guard (turn_fault (shape known) [] w word) (ending known (walked (rules known) [] w word) rest)
unfolding walk_fault
turned known w word rest = guard-or_else (turn_fault (shape known) [] w word) (walk_fault (shape known) [] (walked (rules known) [] w word) rest) _

-- a word, by whether it is `--`, its name and its letters
abbrev pub word_kinds : List Choice → Bool → Option (Text × Option Text) → Option Text → Held → Kinds
word_kinds known true long short h = []
word_kinds known false (Some p) short h = long_fault (rules known) false (arg_by_long (rules known) p.0) p.1 h
word_kinds known false None short h = option_map_or (λ flags. bundle_fault (rules known) false flags h) short []

abbrev pub word_step : List Choice → Bool → Waiting → Text → Option (Text × Option Text) → Option Text → Held → Held × Step
word_step known true waiting word long short h = (h, trailing 1)
word_step known false waiting word (Some p) short h = long_word (rules known) waiting word p.0 p.1 h
word_step known false waiting word None short h = short_or_plain (rules known) waiting word short h

kinds_are : (known : List Choice) (b : Bool) (long : Option (Text × Option Text)) (word : Text) (h : Held)
    → cond b [] (flag_word_fault (rules known) false long word h) ≡ word_kinds known b long (short_of word) h
kinds_are known true long word h = refl
kinds_are known false None word h = refl
kinds_are known false (Some p) word h = refl

step_is : (known : List Choice) (b : Bool) (waiting : Waiting) (word : Text) (long : Option (Text × Option Text)) (h : Held)
    → cond b (h, trailing 1) (long_or_other (rules known) waiting word long h) ≡ word_step known b waiting word long (short_of word) h
step_is known true waiting word long h = refl
step_is known false waiting word None h = refl
step_is known false waiting word (Some p) h = refl

abbrev pub then_rest : List Choice → Text → List Text → Held → Waiting → Held × Step → Option (List Row)
then_rest known word rest h waiting met =
    guard (step_fault (shape known) 1 met.0 met.1) (ending known (after_step (rules known) word (at h waiting false) met.0 met.1) rest)

abbrev pub parts : List Choice → Bool → Option (Text × Option Text) → Option Text → Waiting → Text → Held → List Text → Option (List Row)
parts known b long short waiting word h rest =
    guard (word_kinds known b long short h) (then_rest known word rest h waiting (word_step known b waiting word long short h))

as_parts : (known : List Choice) (waiting : Waiting) (word : Text) (h : Held) (rest : List Text)
    → guard (or_else (cond (bytes_eq word (codes "--")) [] (flag_word_fault (rules known) false (long_of word) word h))
    (step_fault (shape known) 1 (cond (bytes_eq word (codes "--")) (h, trailing 1) (long_or_other (rules known) waiting word (long_of word) h)).0
    (cond (bytes_eq word (codes "--")) (h, trailing 1) (long_or_other (rules known) waiting word (long_of word) h)).1))
    (ending known (after_step (rules known) word (at h waiting false) (cond (bytes_eq word (codes "--")) (h, trailing 1) (long_or_other (rules known) waiting word (long_of word) h)).0
    (cond (bytes_eq word (codes "--")) (h, trailing 1) (long_or_other (rules known) waiting word (long_of word) h)).1) rest)
    ≡ parts known (bytes_eq word (codes "--")) (long_of word) (short_of word) waiting word h rest
as_parts known waiting word h rest =
    guard-or_else (cond (bytes_eq word (codes "--")) [] (flag_word_fault (rules known) false (long_of word) word h)) _ _
    ∙ ap₂ (λ (kinds : Kinds) (met : Held × Step). guard kinds (then_rest known word rest h waiting met))
    (kinds_are known (bytes_eq word (codes "--")) (long_of word) word h) (step_is known (bytes_eq word (codes "--")) waiting word (long_of word) h)

pub idle_turn : (known : List Choice) (word : Text) (h : Held) (rest : List Text)
    → ending known (at h idle false) (word ∷ rest) ≡ parts known (bytes_eq word (codes "--")) (long_of word) (short_of word) idle word h rest
unfolding walked
idle_turn known word h rest = turned known (at h idle false) word rest ∙ as_parts known idle word h rest

pub option_turn : (known : List Choice) (word id : Text) (h : Held) (rest : List Text)
    → ending known (at h (option id) false) (word ∷ rest) ≡ parts known (bytes_eq word (codes "--")) (long_of word) (short_of word) (option id) word h rest
unfolding walked
option_turn known word id h rest = turned known (at h (option id) false) word rest ∙ as_parts known (option id) word h rest

-- after `--` nothing may follow
pub trailed : (known : List Choice) (h : Held) (waiting : Waiting) (rest : List Text)
    → ending known (at h waiting true) rest ≡ (settle (rules known) h >>= λ rows. if_last rest >>= λ uses. add_all uses rows)
unfolding walk_fault walked
trailed known h waiting [] = sym (bind_some (settle (rules known) h))
  where
    bind_some : (o : Option (List Row)) → (o >>= λ rows. Some rows) ≡ o
    bind_some None = refl
    bind_some (Some rows) = refl
trailed known h waiting (word ∷ rest) =
    turned known (at h waiting true) word rest
    ∙ ap (λ (a : Option Rule). guard
    (option_map_or (λ x. Rattle.clap.specs.Faults.positional_fault (rules known) false x h) a
    (Rattle.clap.specs.Faults.stray_fault (shape known)))
    (ending known (walked (rules known) [] (at h waiting true) word) rest))
    (by_index known 1)
    ∙ sym (bind-none (settle (rules known) h))
