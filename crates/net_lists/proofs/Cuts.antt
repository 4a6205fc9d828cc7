-- The first piece, part or word of a text, and those after it.
use Rattle.std.proofs.Common.{◌≡◌, ℕ, zero, suc, ◌+◌, ◌<◌, ◌≤◌, ◌==◌, ◌&&◌, Bool, true, false, cond, List, [], ◌∷◌, length, take}
use Rattle.std.proofs.Common.{drop, get_or, map, filter, refl, sym, ap, subst, ◌∙◌, arith, ⊎_elim, length-drop}
use Rattle.std.specs.List.{onto_first, prefix_len}
use Rattle.std.proofs.lemmas.Bool.{false≢true, cases_lt}
use Rattle.std.proofs.lemmas.List.{at_drop_more, take_all, drop_all}
use Rattle.edge_io.specs.Bytes.{trimmed, is_blank, without_front_blanks}
use Rattle.net_lists.specs.Cutting.{front_len, depth_after, pieces_between, words_between, words, is_filled, is_comma, comma_parts, first_word, after_word}

one_more : (n : ℕ) → 1 + n ≡ suc n
one_more n = omega arith

pieces_nil : (cuts : ℕ → Bool) → pieces_between cuts 0 [] ≡ [] ∷ []
unfolding pieces_between
pieces_nil cuts = refl

module _ (cuts : ℕ → Bool) where
  -- at a byte that cuts, and at another
  front_len-cut : (depth byte : ℕ) (rest : List ℕ) → (depth == 0 && cuts byte) ≡ true → front_len cuts depth (byte ∷ rest) ≡ 0
  unfolding front_len
  front_len-cut depth byte rest e = rw e refl

  front_len-on : (depth byte : ℕ) (rest : List ℕ) → (depth == 0 && cuts byte) ≡ false → front_len cuts depth (byte ∷ rest) ≡ suc (front_len cuts (depth_after depth byte) rest)
  unfolding front_len
  front_len-on depth byte rest e = rw e (one_more _)

  pieces-cut : (depth byte : ℕ) (rest : List ℕ) → (depth == 0 && cuts byte) ≡ true → pieces_between cuts depth (byte ∷ rest) ≡ [] ∷ pieces_between cuts 0 rest
  unfolding pieces_between
  pieces-cut depth byte rest e = rw e refl

  pieces-on : (depth byte : ℕ) (rest : List ℕ) → (depth == 0 && cuts byte) ≡ false → pieces_between cuts depth (byte ∷ rest) ≡ onto_first byte (pieces_between cuts (depth_after depth byte) rest)
  unfolding pieces_between
  pieces-on depth byte rest e = rw e refl

  -- the length of the front is within the text
  pub front_len-le : (depth : ℕ) (text : List ℕ) → front_len cuts depth text ≤ length text
  unfolding front_len
  front_len-le depth [] = omega arith
  front_len-le depth (byte ∷ rest) = go (depth == 0 && cuts byte) (front_len-le (depth_after depth byte) rest)
    where
      go : (b : Bool) → front_len cuts (depth_after depth byte) rest ≤ length rest → cond b 0 (1 + front_len cuts (depth_after depth byte) rest) ≤ length (byte ∷ rest)
      go true h = omega arith
      go false h = omega arith

  -- a text without a byte that cuts is one piece
  pub pieces-only : (depth : ℕ) (text : List ℕ) → length text ≤ front_len cuts depth text → pieces_between cuts depth text ≡ text ∷ []
  unfolding pieces_between
  pieces-only depth [] h = refl
  pieces-only depth (byte ∷ rest) h = go (depth == 0 && cuts byte) refl (pieces-only (depth_after depth byte) rest)
    where
      go : (b : Bool)
          → (depth == 0 && cuts byte) ≡ b
          → (length rest ≤ front_len cuts (depth_after depth byte) rest →
          pieces_between cuts (depth_after depth byte) rest ≡ rest ∷ [])
          → pieces_between cuts depth (byte ∷ rest) ≡ (byte ∷ rest) ∷ []
      go true e more = absurd (omega (arith, front_len-cut depth byte rest e))
      go false e more = pieces-on depth byte rest e ∙ ap (onto_first byte) (more (omega (arith, front_len-on depth byte rest e)))

  -- a text with a byte that cuts has its front as its first piece
  pub pieces-first : (depth : ℕ) (text : List ℕ)
      → front_len cuts depth text < length text
      → pieces_between cuts depth text ≡
      take (front_len cuts depth text) text ∷ pieces_between cuts 0 (drop (suc (front_len cuts depth text)) text)
  pieces-first depth [] h = absurd (omega arith)
  pieces-first depth (byte ∷ rest) h = go (depth == 0 && cuts byte) refl (pieces-first (depth_after depth byte) rest)
    where
      parts : ℕ → List (List ℕ)
      parts n = take n (byte ∷ rest) ∷ pieces_between cuts 0 (drop (suc n) (byte ∷ rest))

      go : (b : Bool)
          → (depth == 0 && cuts byte) ≡ b
          → (front_len cuts (depth_after depth byte) rest < length rest →
          pieces_between cuts (depth_after depth byte) rest ≡
          take (front_len cuts (depth_after depth byte) rest) rest ∷
          pieces_between cuts 0 (drop (suc (front_len cuts (depth_after depth byte) rest)) rest))
          → pieces_between cuts depth (byte ∷ rest) ≡ parts (front_len cuts depth (byte ∷ rest))
      go true e more = pieces-cut depth byte rest e ∙ ap parts (sym (front_len-cut depth byte rest e))
      go false e more = pieces-on depth byte rest e ∙ ap (onto_first byte) (more (omega (arith, front_len-on depth byte rest e))) ∙ ap parts (sym (front_len-on depth byte rest e))

  -- the front ends at a byte that cuts
  pieces-after : (depth : ℕ) (text : List ℕ)
      → front_len cuts depth text < length text
      → pieces_between cuts 0 (drop (front_len cuts depth text) text) ≡
      [] ∷ pieces_between cuts 0 (drop (suc (front_len cuts depth text)) text)
  pieces-after depth [] h = absurd (omega arith)
  pieces-after depth (byte ∷ rest) h = go (depth == 0 && cuts byte) refl (pieces-after (depth_after depth byte) rest)
    where
      At : ℕ → Type 0
      At n = pieces_between cuts 0 (drop n (byte ∷ rest)) ≡ [] ∷ pieces_between cuts 0 (drop (suc n) (byte ∷ rest))

      outer : (d : ℕ) (b : Bool) → (d == 0) ≡ b → (b && cuts byte) ≡ true → cuts byte ≡ true
      outer d true e h = h
      outer d false e h = absurd (false≢true h)

      go : (b : Bool)
          → (depth == 0 && cuts byte) ≡ b
          → (front_len cuts (depth_after depth byte) rest < length rest →
          pieces_between cuts 0 (drop (front_len cuts (depth_after depth byte) rest) rest) ≡
          [] ∷ pieces_between cuts 0 (drop (suc (front_len cuts (depth_after depth byte) rest)) rest))
          → At (front_len cuts depth (byte ∷ rest))
      go true e more = subst At (sym (front_len-cut depth byte rest e)) (pieces-cut 0 byte rest (outer depth (depth == 0) refl e))
      go false e more = subst At (sym (front_len-on depth byte rest e)) (more (omega (arith, front_len-on depth byte rest e)))

  -- bytes that cut stand for nothing between words
  pub words-skip : (text : List ℕ) → words_between cuts (drop (prefix_len cuts text) text) ≡ words_between cuts text
  unfolding words_between
  words-skip [] = refl
  words-skip (byte ∷ rest) = go (cuts byte) refl (words-skip rest)
    where
      go : (b : Bool)
          → cuts byte ≡ b
          → words_between cuts (drop (prefix_len cuts rest) rest) ≡ words_between cuts rest
          → words_between cuts (drop (cond b (1 + prefix_len cuts rest) 0) (byte ∷ rest)) ≡ words_between cuts (byte ∷ rest)
      go true e more = rw one_more (more ∙ sym (ap (filter is_filled) (pieces-cut 0 byte rest e)))
      go false e more = refl

  pub words_nil : words_between cuts [] ≡ []
  unfolding words_between pieces_between
  words_nil = refl

  -- the front of a text that begins with a byte that doesn't cut has a byte
  pub front_len-some : (byte : ℕ) (rest : List ℕ) → cuts byte ≡ false → 0 < front_len cuts 0 (byte ∷ rest)
  front_len-some byte rest e = omega (arith, front_len-on 0 byte rest e)

  -- a text that begins with another byte begins with a word
  pub words-first : (byte : ℕ) (rest : List ℕ)
      → cuts byte ≡ false
      → words_between cuts (byte ∷ rest) ≡
      take (front_len cuts 0 (byte ∷ rest)) (byte ∷ rest) ∷
      words_between cuts (drop (front_len cuts 0 (byte ∷ rest)) (byte ∷ rest))
  unfolding words_between
  words-first byte rest e =
      go (front_len cuts 0 (byte ∷ rest)) (front_len-some byte rest e) (front_len-le 0 (byte ∷ rest))
      (pieces-only 0 (byte ∷ rest)) (pieces-first 0 (byte ∷ rest)) (pieces-after 0 (byte ∷ rest))
    where
      text : List ℕ
      text = byte ∷ rest

      filled : (n : ℕ) → 0 < n → is_filled (take n text) ≡ true
      filled zero some = absurd (omega arith)
      filled (suc n) some = refl

      go : (n : ℕ)
          → 0 < n
          → n ≤ length text
          → (length text ≤ n → pieces_between cuts 0 text ≡ text ∷ [])
          → (n < length text → pieces_between cuts 0 text ≡ take n text ∷ pieces_between cuts 0 (drop (suc n) text))
          → (n < length text → pieces_between cuts 0 (drop n text) ≡ [] ∷ pieces_between cuts 0 (drop (suc n) text))
          → filter is_filled (pieces_between cuts 0 text) ≡ take n text ∷ filter is_filled (pieces_between cuts 0 (drop n text))
      go n some within only first after = ⊎_elim
          (λ h. ap (filter is_filled) (first h) ∙
          ap (λ b. cond b (take n text ∷ filter is_filled (pieces_between cuts 0 (drop (suc n) text)))
          (filter is_filled (pieces_between cuts 0 (drop (suc n) text)))) (filled n some) ∙
          ap (λ ps. take n text ∷ filter is_filled ps) (sym (after h)))
          (λ h. ap (filter is_filled) (only h) ∙ ap (λ xs. xs ∷ []) (sym (take_all n text h)) ∙
          ap (λ ps. take n text ∷ filter is_filled ps) (sym (ap (pieces_between cuts 0) (drop_all n text h) ∙ pieces_nil cuts)))
          (cases_lt n (length text))

-- what comes after the bytes that cut begins with none
begins : (ℕ → Bool) → List ℕ → Bool
begins cuts [] = false
begins cuts (byte ∷ rest) = cuts byte

begins-skip : (cuts : ℕ → Bool) (text : List ℕ) → begins cuts (drop (prefix_len cuts text) text) ≡ false
unfolding begins
begins-skip cuts [] = refl
begins-skip cuts (byte ∷ rest) = go (cuts byte) refl (begins-skip cuts rest)
  where
    go : (b : Bool) → cuts byte ≡ b → begins cuts (drop (prefix_len cuts rest) rest) ≡ false → begins cuts (drop (cond b (1 + prefix_len cuts rest) 0) (byte ∷ rest)) ≡ false
    go true e more = rw one_more more
    go false e more = e

-- where nothing is left there is no word
pub words-none : (cuts : ℕ → Bool) (text left : List ℕ) → left ≡ drop (prefix_len cuts text) text → length left ≡ 0 → words_between cuts text ≡ []
words-none cuts text [] e h = sym (words-skip cuts text) ∙ ap (words_between cuts) (sym e) ∙ words_nil cuts
words-none cuts text (byte ∷ rest) e h = absurd (omega arith)

-- where something is left, the first word is the front of it
pub words-some : (cuts : ℕ → Bool) (text left : List ℕ)
    → left ≡ drop (prefix_len cuts text) text
    → 0 < length left
    → words_between cuts text ≡ take (front_len cuts 0 left) left ∷ words_between cuts (drop (front_len cuts 0 left) left)
unfolding begins
words-some cuts text [] e h = absurd (omega arith)
words-some cuts text (byte ∷ rest) e h = sym (words-skip cuts text) ∙ ap (words_between cuts) (sym e) ∙ words-first cuts byte rest (ap (begins cuts) e ∙ begins-skip cuts text)

pub front_len-left : (cuts : ℕ → Bool) (text left : List ℕ) → left ≡ drop (prefix_len cuts text) text → 0 < length left → 0 < front_len cuts 0 left
unfolding begins
front_len-left cuts text [] e h = absurd (omega arith)
front_len-left cuts text (byte ∷ rest) e h = front_len-some cuts byte rest (ap (begins cuts) e ∙ begins-skip cuts text)

filled_front : (n : ℕ) (text : List ℕ) → 0 < n → 0 < length text → is_filled (take n text) ≡ true
filled_front zero text n h = absurd (omega arith)
filled_front (suc n) [] m h = absurd (omega arith)
filled_front (suc n) (byte ∷ rest) m h = refl

-- the words of a text, by its first word and what comes after that
pub words-first_word : (text : List ℕ) → words text ≡ cond (is_filled (first_word text)) (first_word text ∷ words (after_word text)) []
unfolding first_word after_word front_len
words-first_word text = go (without_front_blanks text) refl
  where
    go : (left : List ℕ)
        → left ≡ without_front_blanks text
        → words text ≡
        cond (is_filled (take (front_len is_blank 0 left) left))
        (take (front_len is_blank 0 left) left ∷ words (without_front_blanks (drop (front_len is_blank 0 left) left))) []
    go [] e = words-none is_blank text [] e refl
    go (byte ∷ rest) e =
        words-some is_blank text (byte ∷ rest) e (omega arith)
        ∙ ap (λ ws. take (front_len is_blank 0 (byte ∷ rest)) (byte ∷ rest) ∷ ws)
        (sym (words-skip is_blank (drop (front_len is_blank 0 (byte ∷ rest)) (byte ∷ rest))))
        ∙ sym (ap (λ b. cond b
        (take (front_len is_blank 0 (byte ∷ rest)) (byte ∷ rest) ∷
        words (without_front_blanks (drop (front_len is_blank 0 (byte ∷ rest)) (byte ∷ rest))))
        [])
        (filled_front (front_len is_blank 0 (byte ∷ rest)) (byte ∷ rest)
        (front_len-left is_blank text (byte ∷ rest) e (omega arith))
        (omega arith)))

length-without_front_blanks : (text : List ℕ) → length (without_front_blanks text) ≤ length text
length-without_front_blanks text = omega (arith, length-drop (prefix_len is_blank text) text)

-- a text is longer than what comes after its first word
pub after_word-shorter : (text : List ℕ) → 0 < length text → length (after_word text) < length text
unfolding after_word front_len
after_word-shorter text some = go (without_front_blanks text) refl
  where
    go : (left : List ℕ) → left ≡ without_front_blanks text → length (without_front_blanks (drop (front_len is_blank 0 left) left)) < length text
    go [] e = some
    go (byte ∷ rest) e =
        omega (
          arith,
          length-without_front_blanks (drop (front_len is_blank 0 (byte ∷ rest)) (byte ∷ rest)),
          length-drop (front_len is_blank 0 (byte ∷ rest)) (byte ∷ rest),
          front_len-left is_blank text (byte ∷ rest) e (omega arith),
          ap length e,
          length-without_front_blanks text,
        )

-- the comma parts of a text with one piece, and of another
pub comma_parts-only : (text : List ℕ) → length text ≤ front_len is_comma 0 text → comma_parts text ≡ trimmed text ∷ []
unfolding comma_parts
comma_parts-only text h = ap (map trimmed) (pieces-only is_comma 0 text h)

pub comma_parts-first : (text : List ℕ)
    → front_len is_comma 0 text < length text
    → comma_parts text ≡
    trimmed (take (front_len is_comma 0 text) text) ∷ comma_parts (drop (suc (front_len is_comma 0 text)) text)
unfolding comma_parts
comma_parts-first text h = ap (map trimmed) (pieces-first is_comma 0 text h)

-- a loop's step over the bytes of the front
pub front_len-step : (cuts : ℕ → Bool) (depth : ℕ) (text : List ℕ) (i : ℕ)
    → i < length text
    → (depth == 0 && cuts (get_or text i 0)) ≡ false
    → front_len cuts depth (drop i text) ≡ suc (front_len cuts (depth_after depth (get_or text i 0)) (drop (i + 1) text))
front_len-step cuts depth text i h e = at_drop_more (front_len cuts depth) text i 0 h ∙ front_len-on cuts depth (get_or text i 0) (drop (i + 1) text) e

pub front_len-stop : (cuts : ℕ → Bool) (depth : ℕ) (text : List ℕ) (i : ℕ) → i < length text → (depth == 0 && cuts (get_or text i 0)) ≡ true → front_len cuts depth (drop i text) ≡ 0
front_len-stop cuts depth text i h e = at_drop_more (front_len cuts depth) text i 0 h ∙ front_len-cut cuts depth (get_or text i 0) (drop (i + 1) text) e

pub front_len-end : (cuts : ℕ → Bool) (depth : ℕ) (text : List ℕ) (i : ℕ) → length text ≤ i → front_len cuts depth (drop i text) ≡ 0
unfolding front_len
front_len-end cuts depth text i h = ap (front_len cuts depth) (drop_all i text h)

pub ruleset cut_steps = (front_len-step, front_len-stop, front_len-end)
