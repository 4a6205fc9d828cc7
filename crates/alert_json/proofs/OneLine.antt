-- The text of a value is one line: no control character is in it.
use Rattle.std.proofs.Common.{◌≡◌, ℕ, zero, suc, ◌/◌, ◌%◌, ◌<◌, ◌≤◌, ◌^◌, Bool, true, false, cond, List, [], ◌∷◌, ◌++◌, length, get_or, All, refl, arith}
use Rattle.std.specs.Prelude.{⊤, decimal, nat_lt}
use Rattle.std.specs.Char.{digit_char}
use Rattle.std.proofs.lemmas.Bool.Decides.{nat_tests}
use Rattle.std.proofs.lemmas.Fmt.{decimal_is_IsNumeral}
use Rattle.std.proofs.lemmas.Str.Parse.{digit_at}
use Rattle.json.specs.Print.{escape_letter, escape_byte, escape, quoted}
use Rattle.serde_json.specs.Data.{unsigned, negative, float, Data, null, boolean, number, string, array, object, Items, no_items, item, Members, no_members, member}
use Rattle.serde_json.specs.Written.{comma_if, compact_text, items_text, members_text}
use Rattle.alert_json.specs.Reading.{IsOneLine, IsWhole, ItemsAreWhole, MembersAreWhole}

-- each byte is one that is shown, or a part of one
abbrev Shown : List ℕ → Type 0
Shown [] = ⊤
Shown (x ∷ xs) = (32 ≤ x) × Shown xs

append : (xs ys : List ℕ) → Shown xs → Shown ys → Shown (xs ++ ys)
append [] ys h k = k
append (x ∷ xs) ys h k = (h.0, append xs ys h.1 k)

all : (xs : List ℕ) → Shown xs → All (λ (byte : ℕ). 32 ≤ byte) xs
all [] h i d lt = absurd (omega arith)
all (x ∷ xs) h zero d lt = h.0
all (x ∷ xs) h (suc i) d lt = all xs h.1 i d (omega arith)

each : (xs : List ℕ) → ((i : ℕ) → i < length xs → 32 ≤ get_or xs i 0) → Shown xs
each [] h = tt
each (x ∷ xs) h = (h 0 (omega arith), each xs (λ i lt. h (suc i) (omega arith)))

digits : (n : ℕ) → n < 2 ^ 64 → Shown (decimal n)
digits n small = each (decimal n) (λ i lt. omega (arith, (digit_at (decimal n) i (decimal_is_IsNumeral n small).0.1 lt).0))

chosen : (b : Bool) (xs ys : List ℕ) → (b ≡ true → Shown xs) → (b ≡ false → Shown ys) → Shown (cond b xs ys)
chosen true xs ys h k = h refl
chosen false xs ys h k = k refl

letter : (x : ℕ) → nat_lt 0 (escape_letter x) ≡ true → 32 ≤ escape_letter x
letter x some = grind (arith, nat_tests)

figure : (d : ℕ) → 32 ≤ digit_char d
figure d = grind (arith, nat_tests)

plain : (x : ℕ) → nat_lt x 32 ≡ false → 32 ≤ x
plain x large = grind (arith, nat_tests)

named : (x : ℕ) → Shown (92 ∷ 117 ∷ 48 ∷ 48 ∷ digit_char (x / 16) ∷ digit_char (x % 16) ∷ [])
named x = (omega arith, (omega arith, (omega arith, (omega arith, (figure (x / 16), (figure (x % 16), tt))))))

byte : (x : ℕ) → Shown (escape_byte x)
unfolding escape_byte
byte x =
    chosen (nat_lt 0 (escape_letter x)) _ _
    (λ some. (omega arith, (letter x some, tt)))
    (λ none. chosen (nat_lt x 32) _ _ (λ small. named x) (λ large. (plain x large, tt)))

escaped : (s : List ℕ) → Shown (escape s)
escaped [] = tt
escaped (x ∷ xs) = append (escape_byte x) (escape xs) (byte x) (escaped xs)

text : (s : List ℕ) → Shown (quoted s)
text s = (omega arith, append (escape s) (34 ∷ []) (escaped s) (omega arith, tt))

comma : (later : Bool) → Shown (comma_if later)
comma true = (omega arith, tt)
comma false = tt

mutual
  shown : (d : Data) → IsWhole d → Shown (compact_text d)
  shown null h = (omega arith, (omega arith, (omega arith, (omega arith, tt))))
  shown (boolean true) h = (omega arith, (omega arith, (omega arith, (omega arith, tt))))
  shown (boolean false) h = (omega arith, (omega arith, (omega arith, (omega arith, (omega arith, tt)))))
  shown (number (unsigned n)) h = digits n h
  shown (number (negative z)) h = absurd h
  shown (number (float x)) h = absurd h
  shown (string s) h = text s
  shown (array ds) h = (omega arith, shown_items false ds h)
  shown (object ms) h = (omega arith, shown_members false ms h)

  shown_items : (later : Bool) (ds : Items) → ItemsAreWhole ds → Shown (items_text later ds)
  shown_items later no_items h = (omega arith, tt)
  shown_items later (item d ds) h =
      append (comma_if later) (compact_text d ++ items_text true ds) (comma later)
      (append (compact_text d) (items_text true ds) (shown d h.0) (shown_items true ds h.1))

  shown_members : (later : Bool) (ms : Members) → MembersAreWhole ms → Shown (members_text later ms)
  shown_members later no_members h = (omega arith, tt)
  shown_members later (member k d ms) h =
      append (comma_if later) (quoted k ++ 58 ∷ (compact_text d ++ members_text true ms)) (comma later)
      (append (quoted k) (58 ∷ (compact_text d ++ members_text true ms)) (text k)
      (omega arith, append (compact_text d) (members_text true ms) (shown d h.0) (shown_members true ms h.1)))

pub one_line : (d : Data) → IsWhole d → IsOneLine (compact_text d)
one_line d h = all (compact_text d) (shown d h)
