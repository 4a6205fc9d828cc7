-- The options and flags of a command.
--
-- An option takes a value, a flag takes none. Each has a letter, as `-c`, or a name, as `--lanes`.
-- (Snort Users Manual 2.9, section 1.6, for the letters; the names are our own.)
-- To try it on: `-r` is an option with the letter 114, and `--stats` a flag.
use Rattle.std.specs.Prelude.{ℕ, ◌==◌, Bool, true, false, List, [], ◌∷◌, codes}
use Rattle.std.specs.Str.{bytes_eq}

-- what an option or a flag is called: by a letter after `-`, or by a name after `--`
pub data Label : Type 0 where
  letter : ℕ → Label
  name : List ℕ → Label

-- an option or a flag
pub record Choice : Type 0 where
  pub label : Label
  pub takes_value : Bool

abbrev pub text_of : Label → List ℕ
text_of (letter x) = x ∷ []
text_of (name text) = text

abbrev pub is_letter : ℕ → Label → Bool
is_letter x (letter y) = y == x
is_letter x (name text) = false

abbrev pub is_name : List ℕ → Label → Bool
is_name text (letter x) = false
is_name text (name other) = bytes_eq other text

abbrev pub letter_option : ℕ → Choice
letter_option x = record { label = letter x; takes_value = true }

abbrev pub name_option : List ℕ → Choice
name_option text = record { label = name text; takes_value = true }

abbrev pub letter_flag : ℕ → Choice
letter_flag x = record { label = letter x; takes_value = false }

abbrev pub name_flag : List ℕ → Choice
name_flag text = record { label = name text; takes_value = false }

-- `-c -r -A -k -n -S`, the options with a name, `-q -U -T -V`, the flags with a name
abbrev pub table : List Choice
table =
    letter_option 99 ∷ letter_option 114 ∷ letter_option 65 ∷ letter_option 107 ∷ letter_option 110 ∷ letter_option 83
    ∷ name_option (codes "host-table") ∷ name_option (codes "lanes") ∷ name_option (codes "flush-point")
    ∷ name_option (codes "generate") ∷ name_option (codes "seed") ∷ name_option (codes "read-unified2")
    ∷ letter_flag 113 ∷ letter_flag 85 ∷ letter_flag 84 ∷ letter_flag 86
    ∷ name_flag (codes "skip-refused") ∷ name_flag (codes "stats") ∷ name_flag (codes "unified2") ∷ name_flag (codes "help") ∷ []
