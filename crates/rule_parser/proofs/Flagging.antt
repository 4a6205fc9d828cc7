-- The flags of a pattern, letter by letter.
use Rattle.std.proofs.Common.{◌≡◌, ℕ, ◌+◌, ◌<◌, ◌≤◌, Ok, Err, List, [], ◌∷◌, length, drop, get_or, refl, ◌∙◌}
use Rattle.std.proofs.lemmas.List.{at_drop_more, at_drop_all}
use Rattle.rule_parser.specs.declared.fault.Fault.{Fault}
use Rattle.rule_parser.specs.declared.patterns.Flags.{Flags}
use Rattle.rule_parser.specs.Patterns.{with_flag, flags_of}

flags_of-some : (flags next : Flags) (letter : ℕ) (rest : List ℕ) → with_flag flags letter ≡ Ok next → flags_of flags (letter ∷ rest) ≡ flags_of next rest
unfolding flags_of
flags_of-some flags next letter rest some = rw (some, flags_of) refl

flags_of-none : (flags : Flags) (why : Fault) (letter : ℕ) (rest : List ℕ) → with_flag flags letter ≡ Err why → flags_of flags (letter ∷ rest) ≡ Err why
unfolding flags_of
flags_of-none flags why letter rest none = rw (none, flags_of) refl

flags_of-nil : (flags : Flags) → flags_of flags [] ≡ Ok flags
unfolding flags_of
flags_of-nil flags = refl

-- a loop's step over the letters
pub flags_of-step : (flags next : Flags) (letters : List ℕ) (i : ℕ)
    → i < length letters
    → with_flag flags (get_or letters i 0) ≡ Ok next
    → flags_of flags (drop i letters) ≡ flags_of next (drop (i + 1) letters)
flags_of-step flags next letters i h some = at_drop_more (flags_of flags) letters i 0 h ∙ flags_of-some flags next (get_or letters i 0) (drop (i + 1) letters) some

pub flags_of-stop : (flags : Flags) (why : Fault) (letters : List ℕ) (i : ℕ) → i < length letters → with_flag flags (get_or letters i 0) ≡ Err why → flags_of flags (drop i letters) ≡ Err why
flags_of-stop flags why letters i h none = at_drop_more (flags_of flags) letters i 0 h ∙ flags_of-none flags why (get_or letters i 0) (drop (i + 1) letters) none

pub flags_of-end : (flags : Flags) (letters : List ℕ) (i : ℕ) → length letters ≤ i → flags_of flags (drop i letters) ≡ Ok flags
flags_of-end flags letters i h = at_drop_all (flags_of flags) letters i h ∙ flags_of-nil flags

pub ruleset flagging = (flags_of-step, flags_of-stop, flags_of-end)
