-- The options of a text, as the loops over a text and over its options go through them.
use Rattle.std.proofs.Common.{◌≡◌, ℕ, suc, ◌+◌, ◌<◌, ◌≤◌, length, get_or, Bool, true, false, Option, Some, None, List, [], ◌∷◌, take, drop, refl, ap, ◌∙◌, cond, arith}
use Rattle.std.proofs.lemmas.List.{at_drop_more, at_drop_all}
use Rattle.std.specs.List.{onto_first}
use Rattle.std.specs.Option.{option_map}
use Rattle.rule_parser.specs.declared.written.Quoting.{Quoting}
use Rattle.rule_parser.specs.Written.{outside, after_byte, ends_option, option_len, option_texts}
use Rattle.rule_parser.proofs.Quoting.{shifted, shifted-zero}

shifted-more : (count : ℕ) (place : Option ℕ) → shifted count (option_map (λ len. len + 1) place) ≡ shifted (count + 1) place
shifted-more count None = refl
shifted-more count (Some len) = ap (λ (n : ℕ). Some n) (omega arith)

option_len-on : (at : Quoting) (byte : ℕ) (rest : List ℕ) (count : ℕ) → ends_option at byte ≡ false
    → shifted count (option_len at (byte ∷ rest)) ≡ shifted (count + 1) (option_len (after_byte at byte) rest)
unfolding option_len
option_len-on at byte rest count goes_on = rw (goes_on, option_len) (shifted-more count (option_len (after_byte at byte) rest))

option_len-found : (at : Quoting) (byte : ℕ) (rest : List ℕ) (count : ℕ) → ends_option at byte ≡ true → shifted count (option_len at (byte ∷ rest)) ≡ Some count
unfolding option_len
option_len-found at byte rest count found = rw (found, option_len) (ap (λ (n : ℕ). Some n) (omega arith))

option_len-nil : (at : Quoting) (count : ℕ) → shifted count (option_len at []) ≡ None
unfolding option_len
option_len-nil at count = refl

-- a loop's step over the bytes before the `;` that ends the option
pub option_len-step : (at : Quoting) (text : List ℕ) (i : ℕ) → i < length text → ends_option at (get_or text i 0) ≡ false
    → shifted i (option_len at (drop i text)) ≡ shifted (i + 1) (option_len (after_byte at (get_or text i 0)) (drop (i + 1) text))
option_len-step at text i h goes_on =
    at_drop_more (λ rest. shifted i (option_len at rest)) text i 0 h ∙ option_len-on at (get_or text i 0) (drop (i + 1) text) i goes_on

pub option_len-here : (at : Quoting) (text : List ℕ) (i : ℕ) → i < length text → ends_option at (get_or text i 0) ≡ true
    → shifted i (option_len at (drop i text)) ≡ Some i
option_len-here at text i h found =
    at_drop_more (λ rest. shifted i (option_len at rest)) text i 0 h ∙ option_len-found at (get_or text i 0) (drop (i + 1) text) i found

pub option_len-end : (at : Quoting) (text : List ℕ) (i count : ℕ) → length text ≤ i → shifted count (option_len at (drop i text)) ≡ None
option_len-end at text i count h = at_drop_all (λ rest. shifted count (option_len at rest)) text i h ∙ option_len-nil at count

pub ruleset option_lens = (option_len-step, option_len-here, option_len-end, shifted-zero)

-- the first text and those after it, where this many bytes come before its end
abbrev pub texts_at : List ℕ → Option ℕ → List (List ℕ)
texts_at text None = text ∷ []
texts_at text (Some len) = take len text ∷ option_texts outside (drop (len + 1) text)

texts_at-more : (byte : ℕ) (rest : List ℕ) (len : Option ℕ) → onto_first byte (texts_at rest len) ≡ texts_at (byte ∷ rest) (option_map (λ n. n + 1) len)
texts_at-more byte rest None = refl
texts_at-more byte rest (Some len) =
    let one : len + 1 ≡ suc len = omega arith in
    let two : len + 1 + 1 ≡ suc (len + 1) = omega arith in
    rw (two, one) refl

pub option_texts-at : (at : Quoting) (text : List ℕ) → option_texts at text ≡ texts_at text (option_len at text)
unfolding option_texts option_len
option_texts-at at [] = refl
option_texts-at at (byte ∷ rest) = go (ends_option at byte) (option_texts-at (after_byte at byte) rest)
  where
    go : (ends : Bool) → option_texts (after_byte at byte) rest ≡ texts_at rest (option_len (after_byte at byte) rest)
        → cond ends ([] ∷ option_texts outside rest) (onto_first byte (option_texts (after_byte at byte) rest))
        ≡ texts_at (byte ∷ rest) (cond ends (Some 0) (option_map (λ len. len + 1) (option_len (after_byte at byte) rest)))
    go true _ = refl
    go false e = ap (onto_first byte) e ∙ texts_at-more byte rest (option_len (after_byte at byte) rest)
