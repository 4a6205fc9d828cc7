-- Laws of quoted texts, as their loops go through them.
use Rattle.std.proofs.Common.{◌≡◌, ℕ, ◌+◌, ◌<◌, ◌≤◌, ◌==◌, ◌&&◌, ◌++◌, Bool, true, false, not, Option, Some, None, Ok, List, [], ◌∷◌, length, drop, get_or, refl, ap, sym, ◌∙◌, append_assoc, arith}
use Rattle.std.proofs.lemmas.List.{at_drop_more, at_drop_all}
use Rattle.std.specs.Option.{option_map}
use Rattle.net_lists.specs.Stops.{or_kind}
use Rattle.rule_parser.specs.declared.fault.Fault.TheVariants.{OptionValue}
use Rattle.rule_parser.specs.declared.quoted.Style.{Style}
use Rattle.rule_parser.specs.declared.quoted.QuotedPlace.{QuotedPlace}
use Rattle.rule_parser.specs.declared.quoted.QuotedPlace.TheVariants.{Plain}
use Rattle.rule_parser.specs.declared.quoted.QuotedStep.{QuotedStep}
use Rattle.rule_parser.specs.Quotes.{closing_len, step_at, bytes_of, end_bytes, meaning}

-- bytes with these in front, if there are any
abbrev pub in_front : List ℕ → Option (List ℕ) → Option (List ℕ)
in_front front after = option_map (λ rest. front ++ rest) after

in_front-in_front : (xs ys : List ℕ) (after : Option (List ℕ)) → in_front xs (in_front ys after) ≡ in_front (xs ++ ys) after
in_front-in_front xs ys None = refl
in_front-in_front xs ys (Some zs) = ap (λ (t : List ℕ). Some t) (sym (append_assoc xs ys zs))

pub in_front-none : (after : Option (List ℕ)) → in_front [] after ≡ after
in_front-none None = refl
in_front-none (Some rest) = refl

meaning-none : (style : Style) (place : QuotedPlace) (byte : ℕ) (rest out : List ℕ) → step_at style place byte ≡ None → in_front out (meaning style place (byte ∷ rest)) ≡ None
unfolding meaning
meaning-none style place byte rest out none = rw (none, meaning) refl

meaning-some : (style : Style) (place : QuotedPlace) (byte : ℕ) (rest out : List ℕ) (step : QuotedStep) → step_at style place byte ≡ Some step
    → in_front out (meaning style place (byte ∷ rest)) ≡ in_front (out ++ bytes_of step.slash step.byte) (meaning style step.place rest)
unfolding meaning
meaning-some style place byte rest out step some = rw (some, meaning) (in_front-in_front out (bytes_of step.slash step.byte) (meaning style step.place rest))

meaning-nil : (style : Style) (place : QuotedPlace) (out : List ℕ) → in_front out (meaning style place []) ≡ in_front out (end_bytes style place)
unfolding meaning
meaning-nil style place out = refl

-- what was given and the meaning after it, one byte on
pub meaning-step : (style : Style) (place : QuotedPlace) (text out : List ℕ) (i : ℕ) (step : QuotedStep) → i < length text → step_at style place (get_or text i 0) ≡ Some step
    → in_front out (meaning style place (drop i text)) ≡ in_front (out ++ bytes_of step.slash step.byte) (meaning style step.place (drop (i + 1) text))
meaning-step style place text out i step h some =
    at_drop_more (λ rest. in_front out (meaning style place rest)) text i 0 h ∙ meaning-some style place (get_or text i 0) (drop (i + 1) text) out step some

pub meaning-stop : (style : Style) (place : QuotedPlace) (text out : List ℕ) (i : ℕ) → i < length text → step_at style place (get_or text i 0) ≡ None
    → in_front out (meaning style place (drop i text)) ≡ None
meaning-stop style place text out i h none =
    at_drop_more (λ rest. in_front out (meaning style place rest)) text i 0 h ∙ meaning-none style place (get_or text i 0) (drop (i + 1) text) out none

-- after the last byte, what the end gives
pub meaning-end : (style : Style) (place : QuotedPlace) (text out : List ℕ) (i : ℕ) → length text ≤ i → in_front out (meaning style place (drop i text)) ≡ in_front out (end_bytes style place)
meaning-end style place text out i h = at_drop_all (λ rest. in_front out (meaning style place rest)) text i h ∙ meaning-nil style place out

-- the meaning of a text whose bytes were all looked at
pub meaning-whole : (style : Style) (place : QuotedPlace) (text out new : List ℕ) (i : ℕ) (found : Option QuotedStep) (step : QuotedStep)
    → meaning style Plain text ≡ in_front out (meaning style place (drop i text)) → length text ≤ i
    → option_map (λ (s : QuotedStep). bytes_of s.slash s.byte) found ≡ end_bytes style place → found ≡ Some step → new ≡ out ++ bytes_of step.slash step.byte
    → or_kind OptionValue (meaning style Plain text) ≡ Ok new
meaning-whole style place text out new i found step so_far h ends is pushed =
    ap (or_kind OptionValue) (so_far ∙ meaning-end style place text out i h ∙ ap (in_front out) (sym ends)
    ∙ ap (λ (f : Option QuotedStep). in_front out (option_map (λ (s : QuotedStep). bytes_of s.slash s.byte) f)) is) ∙ ap Ok (sym pushed)

-- the meaning of a text that is looked at one byte further
pub meaning-next : (style : Style) (place : QuotedPlace) (text out new : List ℕ) (i : ℕ) (step : QuotedStep)
    → meaning style Plain text ≡ in_front out (meaning style place (drop i text)) → i < length text
    → step_at style place (get_or text i 0) ≡ Some step → new ≡ out ++ bytes_of step.slash step.byte
    → meaning style Plain text ≡ in_front new (meaning style step.place (drop (i + 1) text))
meaning-next style place text out new i step so_far h some pushed =
    so_far ∙ meaning-step style place text out i step h some ∙ ap (λ (o : List ℕ). in_front o (meaning style step.place (drop (i + 1) text))) (sym pushed)

-- a place `count` bytes later
abbrev pub shifted : ℕ → Option ℕ → Option ℕ
shifted count place = option_map (λ len. count + len) place

shifted-one : (count : ℕ) (place : Option ℕ) → shifted count (option_map (λ len. len + 1) place) ≡ shifted (count + 1) place
shifted-one count None = refl
shifted-one count (Some len) = ap (λ (n : ℕ). Some n) (omega arith)

closing-on : (escaped : Bool) (byte : ℕ) (rest : List ℕ) (count : ℕ) → (not escaped && byte == 34) ≡ false
    → shifted count (closing_len escaped (byte ∷ rest)) ≡ shifted (count + 1) (closing_len (not escaped && byte == 92) rest)
unfolding closing_len
closing-on escaped byte rest count goes_on = rw (goes_on, closing_len) (shifted-one count (closing_len (not escaped && byte == 92) rest))

closing-found : (escaped : Bool) (byte : ℕ) (rest : List ℕ) (count : ℕ) → (not escaped && byte == 34) ≡ true → shifted count (closing_len escaped (byte ∷ rest)) ≡ Some count
unfolding closing_len
closing-found escaped byte rest count found = rw (found, closing_len) (ap (λ (n : ℕ). Some n) (omega arith))

closing-nil : (escaped : Bool) (count : ℕ) → shifted count (closing_len escaped []) ≡ None
unfolding closing_len
closing-nil escaped count = refl

-- a loop's step over the bytes before the closing quote
pub closing-step : (escaped : Bool) (text : List ℕ) (i : ℕ) → i < length text → (not escaped && get_or text i 0 == 34) ≡ false
    → shifted i (closing_len escaped (drop i text)) ≡ shifted (i + 1) (closing_len (not escaped && get_or text i 0 == 92) (drop (i + 1) text))
closing-step escaped text i h goes_on =
    at_drop_more (λ rest. shifted i (closing_len escaped rest)) text i 0 h ∙ closing-on escaped (get_or text i 0) (drop (i + 1) text) i goes_on

pub closing-here : (escaped : Bool) (text : List ℕ) (i : ℕ) → i < length text → (not escaped && get_or text i 0 == 34) ≡ true
    → shifted i (closing_len escaped (drop i text)) ≡ Some i
closing-here escaped text i h found =
    at_drop_more (λ rest. shifted i (closing_len escaped rest)) text i 0 h ∙ closing-found escaped (get_or text i 0) (drop (i + 1) text) i found

pub closing-end : (escaped : Bool) (text : List ℕ) (i count : ℕ) → length text ≤ i → shifted count (closing_len escaped (drop i text)) ≡ None
closing-end escaped text i count h = at_drop_all (λ rest. shifted count (closing_len escaped rest)) text i h ∙ closing-nil escaped count

pub shifted-zero : (place : Option ℕ) → shifted 0 place ≡ place
shifted-zero None = refl
shifted-zero (Some len) = ap (λ (n : ℕ). Some n) (omega arith)

pub ruleset closing = (closing-step, closing-here, closing-end, shifted-zero)

pub ruleset meanings = (in_front-none, meaning-step, meaning-stop, meaning-end)
