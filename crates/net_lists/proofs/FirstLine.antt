-- The first line of a text, as a search for a line feed finds it.
use Rattle.std.proofs.Common.{◌≡◌, ℕ, ◌+◌, ◌-◌, ◌<◌, ◌==◌, Bool, true, false, cond, List, [], ◌∷◌, length, get_or, take, drop, Some, None, refl, sym, ap, ◌∙◌, arith}
use Rattle.std.specs.List.{slice_split, onto_first, position_or_len, before_first, after_first}
use Rattle.std.specs.Str.Lines.{lines, lines_of_parts, strip_carriage_return}
use Rattle.std.proofs.lemmas.Bool.Decides.{nat_tests}
use Rattle.std.proofs.lemmas.Grind.{common_steps}
use Rattle.std.proofs.lemmas.List.{take_all, length-drop}
use Rattle.std.proofs.lemmas.List.Splits.{slice_split_first, slice_split_none, length-slice_split}
use Rattle.std.proofs.lemmas.List.Sums.{position_or_len_is}
use Rattle.memchr.specs.Find.{IsFirstByte, is_byte}

-- a part that another follows is a line, less its carriage return
parts_more : (part : List ℕ) (parts : List (List ℕ)) → 0 < length parts → lines_of_parts (part ∷ parts) ≡ strip_carriage_return part ∷ lines_of_parts parts
parts_more part [] nonempty = absurd (omega arith)
parts_more part (next ∷ more) nonempty = refl

-- a test that is not true is false
not_true : (b : Bool) → (b ≡ true → ⊥) → b ≡ false
not_true true h = absurd (h refl)
not_true false h = refl

-- a text with a line feed is the line before it, and the lines after it
pub lines_cut : (text : List ℕ) (end : ℕ) → IsFirstByte (is_byte 10) text (Some end) → lines text ≡ strip_carriage_return (take end text) ∷ lines (take (length text - (end + 1)) (drop (end + 1) text))
lines_cut text end found =
    let place : position_or_len (is_byte 10) text ≡ end =
    position_or_len_is (is_byte 10) text end 0 (omega (arith, found.0.high)) (λ k below. not_true _ (found.0.before k (omega arith) below)) (λ _. found.1) in
    let inside : position_or_len (is_byte 10) text < length text = omega (arith, place, found.0.high) in
    let rest : take (length text - (end + 1)) (drop (end + 1) text) ≡ drop (end + 1) text = take_all _ _ (omega (arith, length-drop (end + 1) text)) in
    let parts : 0 < length (slice_split (is_byte 10) (after_first (is_byte 10) text)) = omega (arith, length-slice_split (is_byte 10) (after_first (is_byte 10) text)) in
    ap lines_of_parts (slice_split_first (is_byte 10) text 0 inside)
    ∙ parts_more (before_first (is_byte 10) text) (slice_split (is_byte 10) (after_first (is_byte 10) text)) parts
    ∙ ap (λ (n : ℕ). strip_carriage_return (take n text) ∷ lines (drop (n + 1) text)) place
    ∙ ap (λ (after : List ℕ). strip_carriage_return (take end text) ∷ lines after) (sym rest)

-- one part alone is a line, if it is not empty
one_part : (part : List ℕ) → 0 < length part → lines_of_parts (part ∷ []) ≡ part ∷ []
one_part [] nonempty = absurd (omega arith)
one_part (byte ∷ part) nonempty = grind (arith, nat_tests)

-- a text without a line feed is one line
pub lines_last : (text : List ℕ) → 0 < length text → IsFirstByte (is_byte 10) text None → lines text ≡ text ∷ lines (take (length text - length text) (drop (length text) text))
lines_last text nonempty found =
    let rest : take (length text - length text) (drop (length text) text) ≡ [] = grind (arith, common_steps) in
    ap lines_of_parts
    (slice_split_none (is_byte 10) text
    (λ k d within.
    let same : get_or text k d ≡ get_or text k 0 = grind (arith, common_steps) in
    rw same (not_true _ (found k (omega arith) within))))
    ∙ one_part text nonempty
    ∙ ap (λ (after : List ℕ). text ∷ lines after) (sym rest)

-- a line feed
abbrev is_feed : ℕ → Bool
is_feed byte = byte == 10

-- a front before the first part of a text
joined_front : (x : ℕ) (parts : List (List ℕ)) (front : List ℕ) → lines_of_parts (front ∷ onto_first x parts) ≡ strip_carriage_return front ∷ lines_of_parts (onto_first x parts)
joined_front x [] front = refl
joined_front x (part ∷ parts) front = refl

-- a line before the lines of what comes after its line feed
lines-cons : (front text : List ℕ) → lines_of_parts (front ∷ slice_split is_feed text) ≡ strip_carriage_return front ∷ lines text
lines-cons front [] = refl
lines-cons front (x ∷ xs) = go (is_feed x)
  where
    go : (b : Bool)
        → lines_of_parts (front ∷ cond b ([] ∷ slice_split is_feed xs) (onto_first x (slice_split is_feed xs))) ≡
        strip_carriage_return front ∷
        lines_of_parts (cond b ([] ∷ slice_split is_feed xs) (onto_first x (slice_split is_feed xs)))
    go true = refl
    go false = joined_front x (slice_split is_feed xs) front

-- a text that is not empty has a line
pub record HasLine (text : List ℕ) : Type 0 where
  pub line : List ℕ
  pub more : List (List ℕ)
  pub begins : lines text ≡ line ∷ more

pub lines-some : (x : ℕ) (xs : List ℕ) → HasLine (x ∷ xs)
lines-some x xs = go (is_feed x) refl (slice_split is_feed xs) refl
  where
    parts_are : (b : Bool) → is_feed x ≡ b → lines (x ∷ xs) ≡ lines_of_parts (cond b ([] ∷ slice_split is_feed xs) (onto_first x (slice_split is_feed xs)))
    parts_are b e = ap (λ b. lines_of_parts (cond b ([] ∷ slice_split is_feed xs) (onto_first x (slice_split is_feed xs)))) e

    go : (b : Bool) → is_feed x ≡ b → (parts : List (List ℕ)) → slice_split is_feed xs ≡ parts → HasLine (x ∷ xs)
    go true e parts p = record { line = strip_carriage_return []; more = lines xs; begins = parts_are true e ∙ lines-cons [] xs }
    go false e [] p = record { line = x ∷ []; more = []; begins = parts_are false e ∙ ap (λ ps. lines_of_parts (onto_first x ps)) p ∙ one_part (x ∷ []) (omega arith) }
    go false e (part ∷ []) p = record { line = x ∷ part; more = []; begins = parts_are false e ∙ ap (λ ps. lines_of_parts (onto_first x ps)) p ∙ one_part (x ∷ part) (omega arith) }
    go false e (part ∷ next ∷ rest) p = record {
      line = strip_carriage_return (x ∷ part);
      more = lines_of_parts (next ∷ rest);
      begins = parts_are false e ∙ ap (λ ps. lines_of_parts (onto_first x ps)) p;
    }
