-- The letters of flags, byte by byte.
use Rattle.std.proofs.Common.{◌≡◌, ℕ, ◌+◌, ◌<◌, ◌≤◌, ◌==◌, Bool, Some, None, List, [], ◌∷◌, length, drop, get_or, refl, ap, ◌∙◌, arith, length-drop}
use Rattle.std.proofs.lemmas.List.{at_drop_more, at_drop_all}
use Rattle.rule_parser.specs.declared.flags.FlagLetters.{FlagLetters}
use Rattle.rule_parser.specs.Flags.{if_any, flag_step, frag_step, flag_letters, frag_letters}

flag_letters-none : (signs : Bool) (letters : FlagLetters) (byte : ℕ) (rest : List ℕ) → flag_step signs letters byte ≡ None
    → flag_letters signs letters (byte ∷ rest) ≡ None
unfolding flag_letters
flag_letters-none signs letters byte rest none = rw (none, flag_letters) refl

flag_letters-some : (signs : Bool) (letters next : FlagLetters) (byte : ℕ) (rest : List ℕ) → flag_step signs letters byte ≡ Some next
    → flag_letters signs letters (byte ∷ rest) ≡ flag_letters signs next rest
unfolding flag_letters
flag_letters-some signs letters next byte rest some = rw (some, flag_letters) refl

flag_letters-nil : (signs : Bool) (letters : FlagLetters) → flag_letters signs letters [] ≡ if_any letters
unfolding flag_letters
flag_letters-nil signs letters = refl

-- a loop's step over the letters of TCP flags
pub flag_letters-step : (signs : Bool) (letters next : FlagLetters) (text : List ℕ) (i : ℕ) → i < length text → flag_step signs letters (get_or text i 0) ≡ Some next
    → flag_letters signs letters (drop i text) ≡ flag_letters signs next (drop (i + 1) text)
flag_letters-step signs letters next text i h some =
    at_drop_more (flag_letters signs letters) text i 0 h ∙ flag_letters-some signs letters next (get_or text i 0) (drop (i + 1) text) some

pub flag_letters-stop : (signs : Bool) (letters : FlagLetters) (text : List ℕ) (i : ℕ) → i < length text → flag_step signs letters (get_or text i 0) ≡ None
    → flag_letters signs letters (drop i text) ≡ None
flag_letters-stop signs letters text i h none =
    at_drop_more (flag_letters signs letters) text i 0 h ∙ flag_letters-none signs letters (get_or text i 0) (drop (i + 1) text) none

pub flag_letters-end : (signs : Bool) (letters : FlagLetters) (text : List ℕ) (i : ℕ) → length text ≤ i → flag_letters signs letters (drop i text) ≡ if_any letters
flag_letters-end signs letters text i h = at_drop_all (flag_letters signs letters) text i h ∙ flag_letters-nil signs letters

frag_letters-none : (letters : FlagLetters) (byte : ℕ) (rest : List ℕ) → frag_step (length rest == 0) letters byte ≡ None
    → frag_letters letters (byte ∷ rest) ≡ None
unfolding frag_letters
frag_letters-none letters byte rest none = rw (none, frag_letters) refl

frag_letters-some : (letters next : FlagLetters) (byte : ℕ) (rest : List ℕ) → frag_step (length rest == 0) letters byte ≡ Some next
    → frag_letters letters (byte ∷ rest) ≡ frag_letters next rest
unfolding frag_letters
frag_letters-some letters next byte rest some = rw (some, frag_letters) refl

frag_letters-nil : (letters : FlagLetters) → frag_letters letters [] ≡ if_any letters
unfolding frag_letters
frag_letters-nil letters = refl

-- the step at a place after which `left` bytes are left
step_left : (letters : FlagLetters) (text : List ℕ) (i left : ℕ) → left + (i + 1) ≡ length text
    → frag_step (length (drop (i + 1) text) == 0) letters (get_or text i 0) ≡ frag_step (left == 0) letters (get_or text i 0)
step_left letters text i left e =
    let rest : length (drop (i + 1) text) ≡ left = omega (arith, length-drop (i + 1) text) in
    ap (λ (n : ℕ). frag_step (n == 0) letters (get_or text i 0)) rest

-- a loop's step over the letters of fragment bits
pub frag_letters-step : (letters next : FlagLetters) (text : List ℕ) (i left : ℕ) → left + (i + 1) ≡ length text → frag_step (left == 0) letters (get_or text i 0) ≡ Some next
    → frag_letters letters (drop i text) ≡ frag_letters next (drop (i + 1) text)
frag_letters-step letters next text i left e some =
    at_drop_more (frag_letters letters) text i 0 (omega arith) ∙ frag_letters-some letters next (get_or text i 0) (drop (i + 1) text) (step_left letters text i left e ∙ some)

pub frag_letters-stop : (letters : FlagLetters) (text : List ℕ) (i left : ℕ) → left + (i + 1) ≡ length text → frag_step (left == 0) letters (get_or text i 0) ≡ None
    → frag_letters letters (drop i text) ≡ None
frag_letters-stop letters text i left e none =
    at_drop_more (frag_letters letters) text i 0 (omega arith) ∙ frag_letters-none letters (get_or text i 0) (drop (i + 1) text) (step_left letters text i left e ∙ none)

pub frag_letters-end : (letters : FlagLetters) (text : List ℕ) (i : ℕ) → length text ≤ i → frag_letters letters (drop i text) ≡ if_any letters
frag_letters-end letters text i h = at_drop_all (frag_letters letters) text i h ∙ frag_letters-nil letters

pub ruleset flag_steps = (flag_letters-step, flag_letters-stop, flag_letters-end)

pub ruleset frag_steps = (frag_letters-step, frag_letters-stop, frag_letters-end)
