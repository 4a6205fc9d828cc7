-- The symbols after blanks, and those of a word.
use Rattle.std.proofs.Common.{◌≡◌, ℕ, ◌+◌, ◌<◌, Bool, true, false, not, cond, List, [], ◌∷◌, ◌&&◌, is_none, take, drop, Option, Some, None, refl, sym, ap, ◌∙◌, arith, suc}
use Rattle.std.specs.List.{prefix_len}
use Rattle.std.proofs.lemmas.Bool.{false≢true}
use Rattle.std.proofs.lemmas.List.Sums.{prefix_len-le-length}
use Rattle.edge_io.specs.Bytes.{is_blank}
use Rattle.net_lists.specs.Tokens.{Symbol, Word, symbols, mark, is_word_byte, begins_word, begins_blank, put, joined}

one_more : (n : ℕ) → 1 + n ≡ suc n
one_more n = omega arith

-- blanks in front stand for nothing
pub symbols-blanks : (xs : List ℕ) → symbols (drop (prefix_len is_blank xs) xs) ≡ symbols xs
symbols-blanks [] = refl
symbols-blanks (x ∷ xs) = go (is_blank x) refl (symbols-blanks xs)
  where
    go : (b : Bool)
        → is_blank x ≡ b
        → symbols (drop (prefix_len is_blank xs) xs) ≡ symbols xs
        → symbols (drop (cond b (1 + prefix_len is_blank xs) 0) (x ∷ xs)) ≡
        cond b (symbols xs) (put x (mark x) (begins_word xs) (symbols xs))
    go true e more = rw one_more more
    go false e more = rw e refl

-- after the blanks in front there is none
pub begins_blank-blanks : (xs : List ℕ) → begins_blank (drop (prefix_len is_blank xs) xs) ≡ false
begins_blank-blanks [] = refl
begins_blank-blanks (x ∷ xs) = go (is_blank x) refl (begins_blank-blanks xs)
  where
    go : (b : Bool) → is_blank x ≡ b → begins_blank (drop (prefix_len is_blank xs) xs) ≡ false → begins_blank (drop (cond b (1 + prefix_len is_blank xs) 0) (x ∷ xs)) ≡ false
    go true e more = rw one_more more
    go false e more = e

-- a byte of a word is joined to the word after it
word_front : (x : ℕ) (xs : List ℕ) → is_word_byte x ≡ true → symbols (x ∷ xs) ≡ joined x (begins_word xs) (symbols xs)
word_front x xs e = go (is_blank x) (mark x) e
  where
    go : (b : Bool) (m : Option Symbol) → (not b && is_none m) ≡ true → cond b (symbols xs) (put x m (begins_word xs) (symbols xs)) ≡ joined x (begins_word xs) (symbols xs)
    go true m h = absurd (false≢true h)
    go false None h = refl
    go false (Some symbol) h = absurd (false≢true h)

no_word : (xs : List ℕ) → begins_word xs ≡ false → prefix_len is_word_byte xs ≡ 0
no_word [] e = refl
no_word (x ∷ xs) e = rw e refl

-- a word is a longest stretch
pub symbols-word : (xs : List ℕ) → begins_word xs ≡ true → symbols xs ≡ Word (take (prefix_len is_word_byte xs) xs) ∷ symbols (drop (prefix_len is_word_byte xs) xs)
symbols-word [] h = absurd (false≢true h)
symbols-word (x ∷ xs) h = word_front x xs h ∙ go (begins_word xs) refl (symbols-word xs) ∙ ap stretch (sym here)
  where
    stretch : ℕ → List Symbol
    stretch n = Word (take n (x ∷ xs)) ∷ symbols (drop n (x ∷ xs))

    here : prefix_len is_word_byte (x ∷ xs) ≡ suc (prefix_len is_word_byte xs)
    here = rw h (one_more _)

    go : (b : Bool)
        → begins_word xs ≡ b
        → (begins_word xs ≡ true →
        symbols xs ≡ Word (take (prefix_len is_word_byte xs) xs) ∷ symbols (drop (prefix_len is_word_byte xs) xs))
        → joined x b (symbols xs) ≡
        Word (x ∷ take (prefix_len is_word_byte xs) xs) ∷ symbols (drop (prefix_len is_word_byte xs) xs)
    go true e more = ap (joined x true) (more e)
    go false e more = rw no_word refl

-- a byte of a word is in the word
pub prefix_len-word : (xs : List ℕ) → begins_word xs ≡ true → 0 < prefix_len is_word_byte xs
prefix_len-word [] h = absurd (false≢true h)
prefix_len-word (x ∷ xs) h = rw h (omega arith)

pub ruleset words = (symbols-blanks, begins_blank-blanks, symbols-word, prefix_len-word, prefix_len-le-length)
