-- A list has a port where the definition of lists says so.
use Rattle.std.proofs.Common.{◌≡◌, ℕ, zero, suc, ◌<◌, Bool, true, false, not, ◌&&◌, ◌||◌, ◌↔◌, inl, inr, leb, IsTrue, List, [], ◌∷◌, length, get_or, All, Any, refl, sym, ap, ◌∙◌, arith, ⊎_elim}
use Rattle.std.specs.List.{list_any, list_all}
use Rattle.std.proofs.lemmas.Bool.{false≢true, leb-true, le-leb, and_parts, and_from, or_cases, or_left, or_right, not-true, not_from_false, false_from_ne_true}
use Rattle.std.proofs.lemmas.List.{get_or_default}
use Rattle.net_lists.specs.declared.part.ValueBounds.{ValueBounds}
use Rattle.net_lists.specs.declared.part.Part.{Part}
use Rattle.net_lists.specs.Membership.{IsPositive, IsNegated, IsListed, Has, is_in, has_port}

same_bools : (a b : Bool) → (a ≡ true → b ≡ true) → (b ≡ true → a ≡ true) → a ≡ b
same_bools true b f g = sym (f refl)
same_bools false true f g = g refl
same_bools false false f g = refl

module _ {X : Type 0} (test : X → Bool) (P : X → Type 0) (to : (x : X) → test x ≡ true → P x) (from : (x : X) → P x → test x ≡ true) where
  any-tells : (xs : List X) → list_any test xs ≡ true → Any P xs
  any-tells [] e = absurd (false≢true e)
  any-tells (x ∷ xs) e = ⊎_elim
      (λ here. (0, x, omega arith, refl, to x here))
      (λ later. let a = any-tells xs later in (suc a.0, a.1, omega (arith, a.2), a.3, a.4))
      (or_cases (test x) (list_any test xs) e)

  any-from : (xs : List X) (k : ℕ) (x : X) → k < length xs → get_or xs k x ≡ x → P x → list_any test xs ≡ true
  any-from [] k x h e p = absurd (omega arith)
  any-from (y ∷ ys) zero x h e p = or_left (test y) (list_any test ys) (ap test e ∙ from x p)
  any-from (y ∷ ys) (suc k) x h e p = or_right (test y) (list_any test ys) (any-from ys k x (omega arith) e p)

  all-tells : (xs : List X) → list_all test xs ≡ true → All P xs
  all-tells [] e k d h = absurd (omega arith)
  all-tells (x ∷ xs) e zero d h = to x (and_parts (test x) (list_all test xs) e).0
  all-tells (x ∷ xs) e (suc k) d h = all-tells xs (and_parts (test x) (list_all test xs) e).1 k d (omega arith)

  all-from : (xs : List X) → All P xs → list_all test xs ≡ true
  all-from [] all = refl
  all-from (x ∷ xs) all = and_from (test x) (list_all test xs) (from x (all 0 x (omega arith))) (all-from xs (λ k d h. all (suc k) d (omega arith)))

module _ (port : ℕ) where
  in-tells : (part : Part (ValueBounds ℕ)) → is_in port part ≡ true → Has port part.bounds
  in-tells part e = let parts = and_parts (leb part.bounds.low port) (leb port part.bounds.high) e in (leb-true part.bounds.low port parts.0, leb-true port part.bounds.high parts.1)

  in-from : (part : Part (ValueBounds ℕ)) → Has port part.bounds → is_in port part ≡ true
  in-from part has = and_from (leb part.bounds.low port) (leb port part.bounds.high) (le-leb part.bounds.low port has.0) (le-leb port part.bounds.high has.1)

  positive-tells : (part : Part (ValueBounds ℕ)) → (not part.negated && is_in port part) ≡ true → IsPositive part × Has port part.bounds
  positive-tells part e = let parts = and_parts (not part.negated) (is_in port part) e in (not-true part.negated parts.0, in-tells part parts.1)

  positive-from : (part : Part (ValueBounds ℕ)) → IsPositive part × Has port part.bounds → (not part.negated && is_in port part) ≡ true
  positive-from part has = and_from (not part.negated) (is_in port part) (not_from_false part.negated has.0) (in-from part has.1)

  barred-tells : (part : Part (ValueBounds ℕ)) → (part.negated && is_in port part) ≡ true → IsNegated part × Has port part.bounds
  barred-tells part e = let parts = and_parts part.negated (is_in port part) e in (parts.0, in-tells part parts.1)

  barred-from : (part : Part (ValueBounds ℕ)) → IsNegated part × Has port part.bounds → (part.negated && is_in port part) ≡ true
  barred-from part has = and_from part.negated (is_in port part) has.0 (in-from part has.1)

  pub has_port-tells : (parts : List (Part (ValueBounds ℕ))) → has_port parts port ≡ true → IsListed (Has port) parts
  unfolding has_port
  has_port-tells parts e =
      let positive = list_any (λ part. not part.negated && is_in port part) parts in
      let negated = list_all (λ part. part.negated) parts in
      let barred = list_any (λ part. part.negated && is_in port part) parts in
      let both = and_parts (positive || negated) (not barred) e in (
        ⊎_elim
            (λ a. inl
            (any-tells (λ part. not part.negated && is_in port part)
            (λ part. IsPositive part × Has port part.bounds) positive-tells positive-from parts a))
            (λ b. inr (all-tells (λ part. part.negated) IsNegated (λ part n. n) (λ part n. n) parts b))
            (or_cases positive negated both.0),
        λ k d h neg has.
            false≢true (sym (not-true barred both.1) ∙
            any-from (λ part. part.negated && is_in port part)
            (λ part. IsNegated part × Has port part.bounds) barred-tells barred-from parts k
            (get_or parts k d) h (same parts k d (get_or parts k d) h) (neg, has)),
      )
    where
      same : (xs : List (Part (ValueBounds ℕ))) (k : ℕ) (d e : Part (ValueBounds ℕ)) → k < length xs → get_or xs k e ≡ get_or xs k d
      same xs k d e h = get_or_default xs k e d h

  pub has_port-from : (parts : List (Part (ValueBounds ℕ))) → IsListed (Has port) parts → has_port parts port ≡ true
  unfolding has_port
  has_port-from parts is =
      let positive = list_any (λ part. not part.negated && is_in port part) parts in
      let negated = list_all (λ part. part.negated) parts in
      let barred = list_any (λ part. part.negated && is_in port part) parts in
      and_from (positive || negated) (not barred)
      (⊎_elim
      (λ a. or_left positive negated (any-from (λ part. not part.negated && is_in port part) (λ part. IsPositive part × Has port part.bounds) positive-tells positive-from parts a.0 a.1 a.2 a.3 a.4))
      (λ b. or_right positive negated (all-from (λ part. part.negated) IsNegated (λ part n. n) (λ part n. n) parts b))
      is.0)
      (not_from_false barred (false_from_ne_true barred (λ e.
      let a = any-tells (λ part. part.negated && is_in port part) (λ part. IsNegated part × Has port part.bounds) barred-tells barred-from parts e in
      is.1 a.0 a.1 a.2 (rw a.3 a.4.0) (rw a.3 a.4.1))))

  pub has_port-is : (parts : List (Part (ValueBounds ℕ))) (answer : Bool) → (IsTrue answer ↔ IsListed (Has port) parts) → answer ≡ has_port parts port
  has_port-is parts answer is = same_bools answer (has_port parts port) (λ e. has_port-from parts (is.0 e)) (λ e. is.1 (has_port-tells parts e))
