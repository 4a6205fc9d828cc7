-- What the reader of lists gives is what the grammar spells, and the other way round.
use Rattle.std.proofs.Common.{◌≡◌, ℕ, suc, ◌+◌, ◌-◌, ◌<◌, ◌≤◌, ◌==◌, leb, Bool, true, false, cond, ◌&&◌, List, [], ◌∷◌, ◌++◌}
use Rattle.std.proofs.Common.{length, take, get_or, Option, Some, None, refl, sym, ap, subst, ◌∙◌, arith, codes, bytes_eq}
use Rattle.std.proofs.Common.{length-append}
use Rattle.std.specs.Option.{option_map}
use Rattle.std.proofs.lemmas.Bool.{eqb-true, eq-eqb, ne_eqb, le-leb}
use Rattle.std.proofs.lemmas.List.{take_more, take_all, take_at, get_or_at}
use Rattle.std.proofs.lemmas.Slice.Eq.{bytes_eq-Decides}
use Rattle.net_lists.specs.declared.part.Part.{Part}
use Rattle.net_lists.specs.Tokens.{symbols}
use Rattle.net_lists.specs.Lists.{IsList, any, single, single_negated, brackets, brackets_negated, IsTooLong, signed}
use Rattle.net_lists.specs.Machine.{group_parts, bracketed, operand_parts, signed_parts, list_parts}
use Rattle.net_lists.proofs.Lists.Accepted.{accepts_group}
use Rattle.net_lists.proofs.Lists.Derived.{derives_group}
use Rattle.net_lists.proofs.Lists.Starts.{AreParts, none_some, mapped, taken, first_so, second_so}

some_same : {A : Type 0} (x y : A) → Some x ≡ Some y → x ≡ y
some_same x y e = cc

-- what is bracketed by a `[` and a `]` is what is between them
bracketed-brackets : (inner : List ℕ) → bracketed (91 ∷ (inner ++ (93 ∷ []))) ≡ Some inner
unfolding bracketed
bracketed-brackets inner =
    let n = length inner in
    let text = 91 ∷ (inner ++ (93 ∷ [])) in
    let len : length text ≡ n + 2 = omega (arith, length-append inner (93 ∷ [])) in
    let long : leb 2 (length text) ≡ true = le-leb 2 (length text) (omega (arith, len)) in
    let before_last : length text - 1 ≡ suc n = omega (arith, len) in
    let last : get_or text (length text - 1) 0 ≡ 93 = ap (λ k. get_or text k 0) before_last ∙ get_or_at inner 93 [] 0 n refl in
    let size : length text - 2 ≡ n = omega (arith, len) in
    let front : take (length text - 2) (inner ++ (93 ∷ [])) ≡ inner = ap (λ k. take k (inner ++ (93 ∷ []))) size ∙ take_at inner (93 ∷ []) n refl in
    ap (λ b. cond ((b && true) && (get_or text (length text - 1) 0 == 93)) (Some (take (length text - 2) (inner ++ (93 ∷ [])))) None) long
    ∙ ap (λ b. cond b (Some (take (length text - 2) (inner ++ (93 ∷ [])))) None) (eq-eqb (get_or text (length text - 1) 0) 93 last)
    ∙ ap Some front

-- a text that is not empty ends in its last byte
ended : (xs : List ℕ) → 0 < length xs → xs ≡ take (length xs - 1) xs ++ (get_or xs (length xs - 1) 0 ∷ [])
ended xs some =
    let e : length xs - 1 + 1 ≡ length xs = omega arith in
    sym (take_all (length xs) xs (omega arith)) ∙ ap (λ n. take n xs) (sym e) ∙ take_more xs (length xs - 1) 0 (omega arith)

bracketed_is : (text inner : List ℕ) → bracketed text ≡ Some inner → text ≡ 91 ∷ (inner ++ (93 ∷ []))
unfolding bracketed
bracketed_is [] inner e = absurd (none_some e)
bracketed_is (first ∷ []) inner e = absurd (none_some e)
bracketed_is (first ∷ second ∷ rest) inner e =
    let text = first ∷ second ∷ rest in
    let back = second ∷ rest in
    let h =
    taken ((leb 2 (length text) && (first == 91)) && (get_or text (length text - 1) 0 == 93))
    (Some (take (length text - 2) back)) inner e in
    let opens : first ≡ 91 = eqb-true first 91 (second_so (leb 2 (length text)) (first == 91) (first_so _ _ h.0)) in
    let closes : get_or text (length text - 1) 0 ≡ 93 = eqb-true _ 93 (second_so _ _ h.0) in
    let fewer : length text - 1 ≡ suc (length back - 1) = omega arith in
    let last : get_or back (length back - 1) 0 ≡ 93 = ap (λ k. get_or text k 0) (sym fewer) ∙ closes in
    let size : length back - 1 ≡ length text - 2 = omega arith in
    let is : take (length text - 2) back ≡ inner = cc in
    ap (λ b. b ∷ back) opens
    ∙ ap (λ xs. 91 ∷ xs)
    (ended back (omega arith) ∙ ap (λ b. take (length back - 1) back ++ (b ∷ [])) last ∙ ap (λ n. take n back ++ (93 ∷ [])) size ∙
    ap (λ xs. xs ++ (93 ∷ [])) is)

module _ {B : Type 0} (reads : List ℕ → Option B) where
  -- an operand that was read: a part, or a group in brackets
  list_of_operand : (text : List ℕ) (parts : List (Part B)) → operand_parts reads false text ≡ Some parts → IsList reads text parts
  unfolding operand_parts group_parts
  list_of_operand text parts e = go (bracketed text) refl e
    where
      go : (o : Option (List ℕ))
          → bracketed text ≡ o
          → elim o as (λ _. Option (List (Part B))) [
            | None ↦ option_map (λ bounds. signed false bounds ∷ []) (reads text)
            | Some inner ↦ group_parts reads false inner
          ] ≡
          Some parts
          → IsList reads text parts
      go None b h =
          let found = mapped (λ bounds. signed false bounds ∷ []) (reads text) parts h in
          let is : signed false found.0 ∷ [] ≡ parts = some_same _ _ (ap (option_map (λ bounds. signed false bounds ∷ [])) (sym found.1) ∙ h) in
          subst (λ ps. IsList reads text ps) is (single found.1)
      go (Some inner) b h = subst (λ xs. IsList reads xs parts) (sym (bracketed_is text inner b)) (brackets inner (derives_group reads false 0 (symbols inner) parts refl h))

  list_of_negated : (text : List ℕ) (parts : List (Part B)) → operand_parts reads true text ≡ Some parts → IsList reads (33 ∷ text) parts
  unfolding operand_parts group_parts
  list_of_negated text parts e = go (bracketed text) refl e
    where
      go : (o : Option (List ℕ))
          → bracketed text ≡ o
          → elim o as (λ _. Option (List (Part B))) [
            | None ↦ option_map (λ bounds. signed true bounds ∷ []) (reads text)
            | Some inner ↦ group_parts reads true inner
          ] ≡
          Some parts
          → IsList reads (33 ∷ text) parts
      go None b h =
          let found = mapped (λ bounds. signed true bounds ∷ []) (reads text) parts h in
          let is : signed true found.0 ∷ [] ≡ parts = some_same _ _ (ap (option_map (λ bounds. signed true bounds ∷ [])) (sym found.1) ∙ h) in
          subst (λ ps. IsList reads (33 ∷ text) ps) is (single_negated text found.1)
      go (Some inner) b h = subst (λ xs. IsList reads (33 ∷ xs) parts) (sym (bracketed_is text inner b)) (brackets_negated inner (derives_group reads true 1 (symbols inner) parts refl h))

  list_of_signed : (text : List ℕ) (parts : List (Part B)) → signed_parts reads text ≡ Some parts → IsList reads text parts
  unfolding signed_parts
  list_of_signed [] parts e = list_of_operand [] parts e
  list_of_signed (first ∷ rest) parts e = go (first == 33) refl e
    where
      go : (b : Bool) → (first == 33) ≡ b → cond b (operand_parts reads true rest) (operand_parts reads false (first ∷ rest)) ≡ Some parts → IsList reads (first ∷ rest) parts
      go true b h = subst (λ x. IsList reads (x ∷ rest) parts) (sym (eqb-true first 33 b)) (list_of_negated rest parts h)
      go false b h = list_of_operand (first ∷ rest) parts h

  -- what is read of a text is what the grammar spells
  pub spelled : (text : List ℕ) (parts : List (Part B)) → list_parts reads text ≡ Some parts → IsList reads text parts
  unfolding list_parts
  spelled text parts e = go (bytes_eq text (codes "any")) refl e
    where
      go : (b : Bool) → bytes_eq text (codes "any") ≡ b → cond b (Some []) (signed_parts reads text) ≡ Some parts → IsList reads text parts
      go true b h =
          let is : text ≡ codes "any" = (bytes_eq-Decides text (codes "any")).0 b in
          let none : [] ≡ parts = some_same _ _ h in
          subst (λ xs. IsList reads xs parts) (sym is) (subst (λ ps. IsList reads (codes "any") ps) none any)
      go false b h = list_of_signed text parts h

  module _ (are_parts : AreParts reads) where
    not_bracketed : (text : List ℕ) (bounds : B) → reads text ≡ Some bounds → bracketed text ≡ None
    unfolding bracketed
    not_bracketed [] bounds e = refl
    not_bracketed (first ∷ rest) bounds e =
        let start = are_parts.starts first rest bounds e in
        ap (λ b. cond ((leb 2 (length (first ∷ rest)) && b) && (get_or (first ∷ rest) (length (first ∷ rest) - 1) 0 == 93))
        (Some (take (length (first ∷ rest) - 2) rest)) None) (ne_eqb first 91 start.no_bracket)
        ∙ never (leb 2 (length (first ∷ rest))) (get_or (first ∷ rest) (length (first ∷ rest) - 1) 0 == 93)
        (take (length (first ∷ rest) - 2) rest)
      where
        never : (a b : Bool) (xs : List ℕ) → cond ((a && false) && b) (Some xs) None ≡ None
        never true b xs = refl
        never false b xs = refl

    operand_parts-part : (negated : Bool) (text : List ℕ) (bounds : B) → reads text ≡ Some bounds → operand_parts reads negated text ≡ Some (signed negated bounds ∷ [])
    unfolding operand_parts
    operand_parts-part negated text bounds e =
        ap (λ o. elim o as (λ _. Option (List (Part B)))
        [ None ↦ option_map (λ bounds. signed negated bounds ∷ []) (reads text) | Some inner ↦ group_parts reads negated inner ])
        (not_bracketed text bounds e)
        ∙ ap (option_map (λ bounds. signed negated bounds ∷ [])) e

    operand_parts-brackets : (negated : Bool) (inner : List ℕ) (parts : List (Part B))
        → group_parts reads negated inner ≡ Some parts
        → operand_parts reads negated (91 ∷ (inner ++ (93 ∷ []))) ≡ Some parts
    unfolding operand_parts
    operand_parts-brackets negated inner parts e =
        ap (λ o. elim o as (λ _. Option (List (Part B))) [
          | None ↦ option_map (λ bounds. signed negated bounds ∷ []) (reads (91 ∷ (inner ++ (93 ∷ []))))
          | Some inner ↦ group_parts reads negated inner
        ]) (bracketed-brackets inner)
        ∙ e

    list_parts-part : (text : List ℕ) (bounds : B) → reads text ≡ Some bounds → list_parts reads text ≡ Some (signed false bounds ∷ [])
    unfolding list_parts signed_parts
    list_parts-part [] bounds e = operand_parts-part false [] bounds e
    list_parts-part (first ∷ rest) bounds e =
        let start = are_parts.starts first rest bounds e in
        other (bytes_eq (first ∷ rest) (codes "any")) refl
        ∙ ap (λ b. cond b (operand_parts reads true rest) (operand_parts reads false (first ∷ rest))) (ne_eqb first 33 start.no_not)
        ∙ operand_parts-part false (first ∷ rest) bounds e
      where
        other : (b : Bool) → bytes_eq (first ∷ rest) (codes "any") ≡ b → cond b (Some []) (signed_parts reads (first ∷ rest)) ≡ signed_parts reads (first ∷ rest)
        other true b = absurd (none_some (sym are_parts.no_any ∙ ap reads (sym ((bytes_eq-Decides (first ∷ rest) (codes "any")).0 b)) ∙ e))
        other false b = refl

    -- what the grammar spells is what is read of it
    pub read : {text : List ℕ} {parts : List (Part B)} → IsList reads text parts → list_parts reads text ≡ Some parts
    unfolding list_parts signed_parts group_parts
    read any = refl
    read (single {text} {bounds} e) = list_parts-part text bounds e
    read (single_negated text {bounds} e) = operand_parts-part true text bounds e
    read (brackets inner {parts} d) = operand_parts-brackets false inner parts (accepts_group reads false (symbols inner) parts d 0 refl)
    read (brackets_negated inner {parts} d) = operand_parts-brackets true inner parts (accepts_group reads true (symbols inner) parts d 1 refl)

    -- the answers of a reader
    pub answer_ok : (text : List ℕ) (list : List (Part B))
        → list_parts reads text ≡ Some list
        → length list ≤ 1024
        → (parts : List (Part B))
        → IsList reads text parts
        → (list ≡ parts) × (length parts ≤ 1024)
    answer_ok text list e short parts d =
        let same : list ≡ parts = some_same _ _ (sym e ∙ read d) in
        (same, subst (λ ps. length ps ≤ 1024) same short)

    pub answer_bad : (text : List ℕ) → list_parts reads text ≡ None → (parts : List (Part B)) → IsList reads text parts → ⊥
    answer_bad text e parts d = none_some (sym e ∙ read d)

    pub answer_long : (text : List ℕ) (long : List (Part B)) → list_parts reads text ≡ Some long → 1024 < length long → (parts : List (Part B)) → IsList reads text parts → 1024 < length parts
    answer_long text long e h parts d = subst (λ ps. 1024 < length ps) (some_same _ _ (sym e ∙ read d)) h

  pub is_too_long : (text : List ℕ) (long : List (Part B)) → list_parts reads text ≡ Some long → 1024 < length long → IsTooLong reads text
  is_too_long text long e h = (long, spelled text long e, h)
