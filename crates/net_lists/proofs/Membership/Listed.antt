-- The verdict of one pass over the parts is membership.
use Rattle.std.proofs.Common.{◌≡◌, ℕ, zero, suc, ◌+◌, ◌<◌, ◌≤◌, Bool, true, false, not, ◌&&◌, ◌||◌, ◌⊎◌, ◌↔◌, inl, inr, cond, leb}
use Rattle.std.proofs.Common.{IsTrue, List, [], ◌∷◌, length, drop, get_or, All, Any, refl, sym, ap, subst, ◌∙◌, arith, ⊎_elim}
use Rattle.std.proofs.lemmas.List.{at_drop_more, drop_all}
use Rattle.std.proofs.lemmas.Bool.{false≢true, leb-true, le-leb}
use Rattle.std.proofs.lemmas.List.Elements.{All-cons}
use Rattle.net_lists.specs.declared.part.Part.{Part}
use Rattle.edge_io.specs.declared.address.Addr.{Addr}
use Rattle.edge_io.specs.declared.address.Addr.TheVariants as addrs
use Rattle.net_lists.specs.declared.part.ValueBounds.{ValueBounds}
use Rattle.net_lists.specs.declared.part.AddrBounds.{AddrBounds}
use Rattle.net_lists.specs.declared.part.AddrBounds.TheVariants as kinds
use Rattle.net_lists.specs.Membership.{IsPositive, IsNegated, IsListed, Has, HasAddress}
use Rattle.net_lists.specs.Verdicts.{is_within, has_address, verdict, is_listed}

module _ {B : Type 0} (has : B → Bool) where
  -- at a part, and after the last
  pub verdict-stop : (found positive : Bool) (parts : List (Part B)) (i : ℕ) (part : Part B)
      → i < length parts
      → part ≡ get_or parts i part
      → has part.bounds ≡ true
      → part.negated ≡ true
      → verdict has found positive (drop i parts) ≡ false
  unfolding verdict
  verdict-stop found positive parts i part h e t n =
      at_drop_more (verdict has found positive) parts i part h
      ∙ ap (λ p. verdict has found positive (p ∷ drop (i + 1) parts)) (sym e)
      ∙ ap (λ b. cond (b && part.negated) false (verdict has (found || has part.bounds) (positive || not part.negated) (drop (i + 1) parts))) t
      ∙ ap (λ b. cond b false (verdict has (found || has part.bounds) (positive || not part.negated) (drop (i + 1) parts))) n

  pub verdict-on : (found positive : Bool) (parts : List (Part B)) (i : ℕ) (part : Part B)
      → i < length parts
      → part ≡ get_or parts i part
      → (has part.bounds && part.negated) ≡ false
      → verdict has found positive (drop i parts) ≡
      verdict has (found || has part.bounds) (positive || not part.negated) (drop (i + 1) parts)
  unfolding verdict
  verdict-on found positive parts i part h e t =
      at_drop_more (verdict has found positive) parts i part h
      ∙ ap (λ p. verdict has found positive (p ∷ drop (i + 1) parts)) (sym e)
      ∙ ap (λ b. cond b false (verdict has (found || has part.bounds) (positive || not part.negated) (drop (i + 1) parts))) t

  pub verdict-end : (found positive : Bool) (parts : List (Part B)) (i : ℕ) → length parts ≤ i → verdict has found positive (drop i parts) ≡ (found || not positive)
  unfolding verdict
  verdict-end found positive parts i h = ap (verdict has found positive) (drop_all i parts h)

pub ruleset verdict_steps = (verdict-stop, verdict-on, verdict-end)

first_so : (a b : Bool) → (a && b) ≡ true → a ≡ true
first_so true b e = refl
first_so false b e = e

second_so : (a b : Bool) → (a && b) ≡ true → b ≡ true
second_so true b e = e
second_so false b e = absurd (false≢true e)

module _ {X : Type 0} (P : X → Type 0) where
  All-nil : All P []
  All-nil = λ k d lt. absurd (omega arith)

  All-head : (x : X) (xs : List X) → All P (x ∷ xs) → P x
  All-head x xs h = h 0 x (omega arith)

  All-tail : (x : X) (xs : List X) → All P (x ∷ xs) → All P xs
  All-tail x xs h = λ k d lt. h (suc k) d (omega arith)

  Any-here : (x : X) (xs : List X) → P x → Any P (x ∷ xs)
  Any-here x xs p = (0, x, omega arith, refl, p)

  Any-there : (x : X) (xs : List X) → Any P xs → Any P (x ∷ xs)
  Any-there x xs h = (suc h.0, h.1, omega (arith, h.2), h.3, h.4)

  Any-split : (x : X) (xs : List X) → Any P (x ∷ xs) → P x ⊎ Any P xs
  Any-split x xs (zero, y, lt, e, p) = inl (subst P (sym e) p)
  Any-split x xs (suc k, y, lt, e, p) = inr (k, y, omega arith, e, p)

  Any-none : Any P [] → ⊥
  Any-none (k, y, lt, e, p) = omega arith

-- what the verdict on the parts that are left means
record Meant {B : Type 0} (meant : B → Type 0) (found positive : Bool) (parts : List (Part B)) : Type 0 where
  some : (found ≡ true) ⊎ (Any (λ part. IsPositive part × meant part.bounds) parts ⊎ ((positive ≡ false) × All IsNegated parts))
  none : All (λ part. IsNegated part → meant part.bounds → ⊥) parts

or_true : (b : Bool) → (b || true) ≡ true
or_true true = refl
or_true false = refl

or_false : (b : Bool) → (b || false) ≡ b
or_false true = refl
or_false false = refl

module _ {B : Type 0} (has : B → Bool) (meant : B → Type 0) (yes : (b : B) → has b ≡ true → meant b) (no : (b : B) → has b ≡ false → meant b → ⊥) where
  abbrev Hit : Part B → Type 0
  Hit part = IsPositive part × meant part.bounds

  abbrev Miss : Part B → Type 0
  Miss part = IsNegated part → meant part.bounds → ⊥

  meant_of : (found positive : Bool) (parts : List (Part B)) → verdict has found positive parts ≡ true → Meant meant found positive parts
  unfolding verdict
  meant_of true positive [] e = record { some = inl refl; none = All-nil Miss }
  meant_of false true [] e = absurd (false≢true e)
  meant_of false false [] e = record { some = inr (inr (refl, All-nil IsNegated)); none = All-nil Miss }
  meant_of found positive (part ∷ parts) e = go (has part.bounds) refl part.negated refl (λ f p. meant_of f p parts) e
    where
      go : (h : Bool)
          → has part.bounds ≡ h
          → (n : Bool)
          → part.negated ≡ n
          → ((f p : Bool) → verdict has f p parts ≡ true → Meant meant f p parts)
          → cond (h && n) false (verdict has (found || h) (positive || not n) parts) ≡ true
          → Meant meant found positive (part ∷ parts)
      go true hs true ns more v = absurd (false≢true v)
      go true hs false ns more v = let m = more (found || true) (positive || true) v in record {
        some = inr (inl (Any-here Hit part parts (ns, yes part.bounds hs)));
        none = All-cons Miss part parts (λ negated. absurd (false≢true (sym ns ∙ negated))) m.none;
      }
      go false hs true ns more v = let m = more (found || false) (positive || false) v in record {
        some = kept m.some;
        none = All-cons Miss part parts (λ negated. no part.bounds hs) m.none;
      }
        where
          kept : ((found || false) ≡ true) ⊎ (Any Hit parts ⊎ (((positive || false) ≡ false) × All IsNegated parts))
              → (found ≡ true) ⊎ (Any Hit (part ∷ parts) ⊎ ((positive ≡ false) × All IsNegated (part ∷ parts)))
          kept (inl f) = inl (sym (or_false found) ∙ f)
          kept (inr (inl any)) = inr (inl (Any-there Hit part parts any))
          kept (inr (inr all)) = inr (inr (sym (or_false positive) ∙ all.0, All-cons IsNegated part parts ns all.1))
      go false hs false ns more v = let m = more (found || false) (positive || true) v in record {
        some = kept m.some;
        none = All-cons Miss part parts (λ negated. no part.bounds hs) m.none;
      }
        where
          kept : ((found || false) ≡ true) ⊎ (Any Hit parts ⊎ (((positive || true) ≡ false) × All IsNegated parts))
              → (found ≡ true) ⊎ (Any Hit (part ∷ parts) ⊎ ((positive ≡ false) × All IsNegated (part ∷ parts)))
          kept (inl f) = inl (sym (or_false found) ∙ f)
          kept (inr (inl any)) = inr (inl (Any-there Hit part parts any))
          kept (inr (inr all)) = absurd (false≢true (sym all.0 ∙ or_true positive))

  verdict_of : (found positive : Bool) (parts : List (Part B)) → Meant meant found positive parts → verdict has found positive parts ≡ true
  unfolding verdict
  verdict_of true positive [] m = refl
  verdict_of false true [] m = absurd (ended m.some)
    where
      ended : (false ≡ true) ⊎ (Any Hit [] ⊎ ((true ≡ false) × All (IsNegated {B = B}) [])) → ⊥
      ended (inl f) = false≢true f
      ended (inr (inl any)) = Any-none Hit any
      ended (inr (inr all)) = false≢true (sym all.0)
  verdict_of false false [] m = refl
  verdict_of found positive (part ∷ parts) m = go (has part.bounds) refl part.negated refl (λ f p. verdict_of f p parts)
    where
      rest : All Miss parts
      rest = All-tail Miss part parts m.none

      go : (h : Bool)
          → has part.bounds ≡ h
          → (n : Bool)
          → part.negated ≡ n
          → ((f p : Bool) → Meant meant f p parts → verdict has f p parts ≡ true)
          → cond (h && n) false (verdict has (found || h) (positive || not n) parts) ≡ true
      go true hs true ns more = absurd (All-head Miss part parts m.none ns (yes part.bounds hs))
      go true hs false ns more = more (found || true) (positive || true) (record { some = inl (or_true found); none = rest })
      go false hs true ns more = more (found || false) (positive || false) (record { some = left m.some; none = rest })
        where
          left : (found ≡ true) ⊎ (Any Hit (part ∷ parts) ⊎ ((positive ≡ false) × All IsNegated (part ∷ parts)))
              → ((found || false) ≡ true) ⊎ (Any Hit parts ⊎ (((positive || false) ≡ false) × All IsNegated parts))
          left (inl f) = inl (or_false found ∙ f)
          left (inr (inl any)) = ⊎_elim (λ hit. absurd (false≢true (sym hit.0 ∙ ns))) (λ more. inr (inl more)) (Any-split Hit part parts any)
          left (inr (inr all)) = inr (inr (or_false positive ∙ all.0, All-tail IsNegated part parts all.1))
      go false hs false ns more = more (found || false) (positive || true) (record { some = left m.some; none = rest })
        where
          left : (found ≡ true) ⊎ (Any Hit (part ∷ parts) ⊎ ((positive ≡ false) × All IsNegated (part ∷ parts)))
              → ((found || false) ≡ true) ⊎ (Any Hit parts ⊎ (((positive || true) ≡ false) × All IsNegated parts))
          left (inl f) = inl (or_false found ∙ f)
          left (inr (inl any)) = ⊎_elim (λ hit. absurd (no part.bounds hs hit.1)) (λ more. inr (inl more)) (Any-split Hit part parts any)
          left (inr (inr all)) = absurd (false≢true (sym ns ∙ All-head IsNegated part parts all.1))

  -- the verdict on all parts is membership
  pub listed : (parts : List (Part B)) (b : Bool) → b ≡ is_listed has parts → IsTrue b ↔ IsListed meant parts
  listed parts b e = (λ t. to (meant_of false false parts (sym e ∙ t)), λ l. (e ∙ verdict_of false false parts (record { some = from l.0; none = l.1 })))
    where
      some : (false ≡ true) ⊎ (Any Hit parts ⊎ ((false ≡ false) × All IsNegated parts)) → Any Hit parts ⊎ All IsNegated parts
      some (inl f) = absurd (false≢true f)
      some (inr (inl any)) = inl any
      some (inr (inr all)) = inr all.1

      to : Meant meant false false parts → IsListed meant parts
      to m = (some m.some, m.none)

      from : Any Hit parts ⊎ All IsNegated parts → (false ≡ true) ⊎ (Any Hit parts ⊎ ((false ≡ false) × All IsNegated parts))
      from (inl any) = inr (inl any)
      from (inr all) = inr (inr (refl, all))

-- what the tests of bounds mean
pub within_yes : (value : ℕ) (bounds : ValueBounds ℕ) → is_within value bounds ≡ true → Has value bounds
within_yes value bounds e = (leb-true bounds.low value (first_so _ _ e), leb-true value bounds.high (second_so (leb bounds.low value) _ e))

pub within_no : (value : ℕ) (bounds : ValueBounds ℕ) → is_within value bounds ≡ false → Has value bounds → ⊥
within_no value bounds e h = false≢true (sym e ∙ ap (λ b. b && leb value bounds.high) (le-leb bounds.low value h.0) ∙ le-leb value bounds.high h.1)

pub address_yes : (addr : Addr) (bounds : AddrBounds) → has_address addr bounds ≡ true → HasAddress addr bounds
address_yes (addrs.V4 value) (kinds.V4 within) e = within_yes value within e
address_yes (addrs.V4 value) (kinds.V6 within) e = absurd (false≢true e)
address_yes (addrs.V6 value) (kinds.V4 within) e = absurd (false≢true e)
address_yes (addrs.V6 value) (kinds.V6 within) e = within_yes value within e

pub address_no : (addr : Addr) (bounds : AddrBounds) → has_address addr bounds ≡ false → HasAddress addr bounds → ⊥
address_no (addrs.V4 value) (kinds.V4 within) e h = within_no value within e h
address_no (addrs.V4 value) (kinds.V6 within) e h = h
address_no (addrs.V6 value) (kinds.V4 within) e h = h
address_no (addrs.V6 value) (kinds.V6 within) e h = within_no value within e h
