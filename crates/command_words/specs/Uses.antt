-- What the words of a command use.
--
-- `--name` and `--name=value` use an option or flag by its name, `-abc` uses those of the letters a, b and
-- c. The first option among the letters takes the rest of its word as its value, less one `=` in front; an
-- option that has no value yet takes the next word, if that doesn't begin with `-` or is `-` alone. Each
-- word belongs to a use; only the last word may be `--`, which then means nothing.
-- (POSIX.1-2017, Base Definitions, 12.2, "Utility Syntax Guidelines", and the manual of GNU getopt_long, in
-- the form that clap 4 gives them.)
-- To try it on: `-qc=a.conf --lanes 2` uses q, c with `a.conf` and lanes with `2`; `-c -q` is refused.
use Rattle.std.specs.Prelude.{ℕ, ◌&&◌, Bool, not, List, [], ◌∷◌, ◌++◌, Option, Some, None, find, is_some, codes, chars, encode_utf8_all, if◌then◌else◌, option_map}
use Rattle.std.specs.List.{list_any}
use Rattle.std.specs.Str.{bytes_eq}
use Rattle.clap.specs.Lexer.{long_of, short_of}
use Rattle.clap.specs.Walk.{attached_value}
use Rattle.edge_io.specs.OnOption.{◌>>=◌}
use Rattle.command_words.specs.Table.{Choice, text_of, is_letter, is_name}

-- the letter or name of what is used, and its value; a flag's value is `true`
pub record Use : Type 0 where
  pub label : List ℕ
  pub value : List ℕ

abbrev pub use_of : Choice → List ℕ → Use
use_of choice value = record { label = text_of choice.label; value = value }

-- what a word uses, and the option in it that waits for its value
pub record Reading : Type 0 where
  pub uses : List Use
  pub waiting : Option Choice

-- a reading of one use, and no option that waits
abbrev pub one : Use → Reading
one use_here = record { uses = use_here ∷ []; waiting = None }

abbrev pub option_uses : Choice → Option (List ℕ) → Reading
option_uses choice (Some value) = one (use_of choice value)
option_uses choice None = record { uses = []; waiting = Some choice }

abbrev pub flag_uses : Choice → Option (List ℕ) → Option Reading
flag_uses choice (Some value) = None
flag_uses choice None = Some (one (use_of choice (codes "true")))

-- `--name` or `--name=value`
abbrev pub name_uses : Option Choice → Option (List ℕ) → Option Reading
name_uses None value = None
name_uses (Some choice) value = if choice.takes_value then Some (option_uses choice value) else flag_uses choice value

abbrev pub then_letters : Choice → Reading → Reading
then_letters choice rest = record rest { uses = use_of choice (codes "true") ∷ rest.uses }

abbrev pub letter_uses : Option Choice → List ℕ → Option Reading → Option Reading
letter_uses None rest next = None
letter_uses (Some choice) rest next =
    if choice.takes_value then Some (option_uses choice (attached_value (encode_utf8_all rest)))
    else option_map (then_letters choice) next

-- the characters of `-abc`
abbrev pub letters_uses : List Choice → List ℕ → Option Reading
letters_uses known [] = Some (record { uses = []; waiting = None })
letters_uses known (x ∷ rest) = letter_uses (find (λ choice. is_letter x choice.label) known) rest (letters_uses known rest)

-- a word that is no value
abbrev pub word_uses : List Choice → Option (List ℕ × Option (List ℕ)) → Option (List ℕ) → Option Reading
word_uses known (Some p) letters = name_uses (find (λ choice. is_name p.0 choice.label) known) p.1
word_uses known None (Some letters) = letters_uses known (chars letters)
word_uses known None None = None

-- a word that an option may take as its value: it doesn't begin with `-`, or is `-` alone
abbrev pub is_value : List ℕ → Bool
is_value word = not (bytes_eq word (codes "--")) && (not (is_some (long_of word)) && not (is_some (short_of word)))

abbrev pub if_last : List (List ℕ) → Option (List Use)
if_last [] = Some []
if_last (word ∷ rest) = None

-- the uses in the words, where an option may wait for its value
abbrev pub uses_in : List Choice → Option Choice → List (List ℕ) → Option (List Use)
uses_in known None [] = Some []
uses_in known (Some choice) [] = None
uses_in known None (word ∷ rest) =
    if bytes_eq word (codes "--") then if_last rest
    else word_uses known (long_of word) (short_of word) >>= λ reading.
    option_map (λ uses. reading.uses ++ uses) (uses_in known reading.waiting rest)
uses_in known (Some choice) (word ∷ rest) =
    if is_value word then option_map (λ uses. use_of choice word ∷ uses) (uses_in known None rest) else None

-- something is used under this letter or name
abbrev pub is_used : List ℕ → List Use → Bool
is_used label uses = list_any (λ use_here. bytes_eq use_here.label label) uses

-- these uses after those before, if each is used once and none was used before
abbrev pub used_once : List Use → List Use → Option (List Use)
used_once before [] = Some before
used_once before (use_here ∷ rest) = if is_used use_here.label before then None else used_once (before ++ use_here ∷ []) rest

-- the uses in the words, if none is used twice
abbrev pub uses_of : List Choice → List (List ℕ) → Option (List Use)
uses_of known words = uses_in known None words >>= used_once []

-- the value of what is used under this letter or name
abbrev pub value_in : List Use → List ℕ → Option (List ℕ)
value_in uses label = option_map (λ use_here. use_here.value) (find (λ use_here. bytes_eq use_here.label label) uses)
