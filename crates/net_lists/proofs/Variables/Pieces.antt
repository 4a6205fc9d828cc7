-- The pieces of a text from a place on: the first, and those after it.
use Rattle.std.proofs.Common.{◌≡◌, ℕ, zero, suc, ◌+◌, ◌-◌, ◌<◌, ◌==◌, true, false, List, [], ◌∷◌, length, take, drop, get_or, Option, Some, None, refl, sym, ap, ◌∙◌, arith, add-one, drop-cons}
use Rattle.std.proofs.lemmas.List.{drop-drop}
use Rattle.std.proofs.lemmas.Bool.{eq-eqb, ne_eqb}
use Rattle.net_lists.specs.Forms.{Form, Otherwise, form_at}
use Rattle.net_lists.specs.Variables.{Variable, Variables, value_of}
use Rattle.net_lists.specs.Expansion.{Bytes, pieces, piece_of, otherwise_of, variable_of}

-- the pieces after bytes that are passed
pieces_passed : (variables : Variables) (text : List ℕ) (place passed : ℕ) (rest : List ℕ) → pieces variables text place passed rest ≡ pieces variables text (place + passed) 0 (drop passed rest)
unfolding pieces
pieces_passed variables text place zero rest = ap (λ p. pieces variables text p 0 rest) (omega arith)
pieces_passed variables text place (suc passed) [] = refl
pieces_passed variables text place (suc passed) (byte ∷ rest) =
    let e : place + 1 + passed ≡ place + suc passed = omega arith in
    pieces_passed variables text (place + 1) passed rest ∙ ap (λ p. pieces variables text p 0 (drop passed rest)) e

module _ (variables : Variables) (text : List ℕ) (place : ℕ) where
  -- the rest of the text from here on
  here : place < length text → drop place text ≡ get_or text place 0 ∷ drop (place + 1) text
  here within = rw (add-one, drop-cons text place 0) refl

  -- a byte that is no `$` is a piece
  pub pieces-byte : place < length text
      → ((get_or text place 0 == 36) ≡ false)
      → pieces variables text place 0 (drop place text) ≡
      Bytes (get_or text place 0 ∷ []) ∷ pieces variables text (place + 1) 0 (drop (place + 1) text)
  unfolding pieces
  pieces-byte within other = ap (pieces variables text place 0) (here within) ∙ rw other refl

  -- a `$` that begins no form is a piece of its own
  pub pieces-alone : place < length text
      → ((get_or text place 0 == 36) ≡ true)
      → form_at text (place + 1) ≡ None
      → pieces variables text place 0 (drop place text) ≡
      Bytes (get_or text place 0 ∷ []) ∷ pieces variables text (place + 1) 0 (drop (place + 1) text)
  unfolding pieces
  pieces-alone within dollar none = ap (pieces variables text place 0) (here within) ∙ rw (dollar, none) refl

  -- a form is a piece, and the next begins after it
  pub pieces-form : place < length text
      → ((get_or text place 0 == 36) ≡ true)
      → (form : Form)
      → form_at text (place + 1) ≡ Some form
      → place + 1 < form.end
      → pieces variables text place 0 (drop place text) ≡
      piece_of text form (variable_of variables text form) ∷ pieces variables text form.end 0 (drop form.end text)
  unfolding pieces
  pieces-form within dollar form found after =
      let e : place + 1 + (form.end - (place + 1)) ≡ form.end = omega arith in
      let more : drop (form.end - (place + 1)) (drop (place + 1) text) ≡ drop form.end text =
      drop-drop (form.end - (place + 1)) (place + 1) text ∙ ap (λ n. drop n text) e in
      ap (pieces variables text place 0) (here within) ∙ rw (dollar, found) refl
      ∙ ap (λ rest. piece_of text form (variable_of variables text form) ∷ rest)
      (pieces_passed variables text (place + 1) (form.end - (place + 1)) (drop (place + 1) text) ∙
      ap (λ p. pieces variables text p 0 (drop (form.end - (place + 1)) (drop (place + 1) text))) e ∙
      ap (pieces variables text form.end 0) more)

-- a form whose variable stands for this
pub piece_of-found : (text : List ℕ) (form : Form) (variable : Option Variable) (bytes : List ℕ) → Some bytes ≡ value_of variable → piece_of text form variable ≡ Bytes bytes
piece_of-found text form (Some variable) bytes e = cc
piece_of-found text form None bytes e = cc

-- a form whose variable is undefined
pub piece_of-lacking : (text : List ℕ) (form : Form) (variable : Option Variable) → None ≡ value_of variable → piece_of text form variable ≡ otherwise_of text form.otherwise
piece_of-lacking text form (Some variable) e = cc
piece_of-lacking text form None e = refl

module _ (variables : Variables) (text : List ℕ) (place : ℕ) (form : Form)
    (within : place < length text)
    (dollar : get_or text place 0 ≡ 36)
    (found : Some form ≡ form_at text (place + 1))
    (after : place + 1 < form.end) where
  -- the variable's value, where it has one
  pub pieces-value : (bytes : List ℕ)
      → Some bytes ≡ value_of (variable_of variables text form)
      → pieces variables text place 0 (drop place text) ≡ Bytes bytes ∷ pieces variables text form.end 0 (drop form.end text)
  pieces-value bytes e =
      pieces-form variables text place within (eq-eqb _ 36 dollar) form (sym found) after
      ∙ ap (λ p. p ∷ pieces variables text form.end 0 (drop form.end text)) (piece_of-found text form _ bytes e)

  -- where the variable has no value, the piece is what the form says
  pub pieces-otherwise : None ≡ value_of (variable_of variables text form)
      → (otherwise : Otherwise)
      → form.otherwise ≡ otherwise
      → pieces variables text place 0 (drop place text) ≡
      otherwise_of text otherwise ∷ pieces variables text form.end 0 (drop form.end text)
  pieces-otherwise e otherwise o =
      pieces-form variables text place within (eq-eqb _ 36 dollar) form (sym found) after
      ∙ ap (λ p. p ∷ pieces variables text form.end 0 (drop form.end text)) (piece_of-lacking text form _ e ∙ ap (otherwise_of text) o)

module _ (variables : Variables) (text : List ℕ) (place : ℕ) (within : place < length text) where
  -- one byte, as a slice of the text is written
  one_byte : (n : ℕ) → n ≡ 1 → take n (drop place text) ≡ get_or text place 0 ∷ []
  one_byte n e = ap (λ k. take k (drop place text)) e ∙ ap (take 1) (here variables text place within)

  pub pieces-plain : (get_or text place 0 ≡ 36 → ⊥)
      → pieces variables text place 0 (drop place text) ≡
      Bytes (take (place + 1 - place) (drop place text)) ∷ pieces variables text (place + 1) 0 (drop (place + 1) text)
  pieces-plain other =
      pieces-byte variables text place within (ne_eqb _ 36 other)
      ∙ ap (λ bytes. Bytes bytes ∷ pieces variables text (place + 1) 0 (drop (place + 1) text)) (sym (one_byte (place + 1 - place) (omega arith)))

  pub pieces-lone : get_or text place 0 ≡ 36
      → None ≡ form_at text (place + 1)
      → pieces variables text place 0 (drop place text) ≡
      Bytes (take (place + 1 - place) (drop place text)) ∷ pieces variables text (place + 1) 0 (drop (place + 1) text)
  pieces-lone dollar none =
      pieces-alone variables text place within (eq-eqb _ 36 dollar) (sym none)
      ∙ ap (λ bytes. Bytes bytes ∷ pieces variables text (place + 1) 0 (drop (place + 1) text)) (sym (one_byte (place + 1 - place) (omega arith)))
