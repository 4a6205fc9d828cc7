-- What is read at the front of a text, step by step.
use Rattle.std.proofs.Common.{◌≡◌, ◌≢◌, ℕ, zero, suc, ◌+◌, ◌<◌, ◌≤◌, Bool, true, eqb, List, [], ◌∷◌, ◌++◌, length, get_or, take, drop, refl, sym, ap, ◌∙◌, append_assoc, arith}
use Rattle.std.specs.Prelude.{⊤}
use Rattle.std.proofs.lemmas.List.{append_cancel_left}
use Rattle.alert_fast.specs.Fronts.{Lacks, IsWord, IsWhole, NoWhole, IsFront, NoFront, ended, followed, BothFit, both}

-- the first elements, and the others, of equal texts
pub first_same : (a b : ℕ) (x y : List ℕ) → a ∷ x ≡ b ∷ y → a ≡ b
first_same a b x y e = ap (λ (t : List ℕ). get_or t 0 0) e

pub rest_same : (a b : ℕ) (x y : List ℕ) → a ∷ x ≡ b ∷ y → x ≡ y
rest_same a b x y e = ap (λ (t : List ℕ). drop 1 t) e

-- the first such byte is at one place alone
pub word_only : (end : ℕ) (w v x y : List ℕ) → Lacks end w → Lacks end v → w ++ (end ∷ x) ≡ v ++ (end ∷ y) → (w ≡ v) × (x ≡ y)
word_only end [] [] x y hw hv e = (refl, rest_same end end x y e)
word_only end [] (b ∷ v) x y hw hv e = absurd (hv.0 (sym (first_same end b _ _ e)))
word_only end (a ∷ w) [] x y hw hv e = absurd (hw.0 (first_same a end _ _ e))
word_only end (a ∷ w) (b ∷ v) x y hw hv e =
    let heads = first_same a b _ _ e in
    let later = word_only end w v x y hw.1 hv.1 (rest_same a b _ _ e) in
    (ap (λ (h : ℕ). h ∷ w) heads ∙ ap (λ (t : List ℕ). b ∷ t) later.0, later.1)

pub lacks-append : (byte : ℕ) (x y : List ℕ) → Lacks byte x → Lacks byte y → Lacks byte (x ++ y)
lacks-append byte [] y h k = k
lacks-append byte (a ∷ x) y h k = (h.0, lacks-append byte x y h.1 k)

pub lacks-back : (byte : ℕ) (x y : List ℕ) → Lacks byte (x ++ y) → Lacks byte y
lacks-back byte [] y h = h
lacks-back byte (a ∷ x) y h = lacks-back byte x y h.1

-- a text without the byte isn't a word that the byte ends
pub lacks-none : (byte : ℕ) (x y : List ℕ) → Lacks byte (x ++ (byte ∷ y)) → ⊥
lacks-none byte x y h = (lacks-back byte x (byte ∷ y) h).0 refl

module _ {A : Type 0} (Fits : A → Type 0) (spell : A → List ℕ) where
  -- a value that a byte ends, which none of those that may be there has in it
  pub ended_front : (end : ℕ) (text word rest : List ℕ) (value : A)
      → ((a : A) → Fits a → Lacks end (spell a))
      → IsWord end text word rest
      → IsWhole Fits spell word value
      → IsFront Fits (ended spell end) text value rest
  ended_front end text word rest value free w h = record {
    fits = h.fits;
    spelled = w.spelled ∙ ap (λ (t : List ℕ). t ++ (end ∷ rest)) (sym h.spelled) ∙ sym (append_assoc (spell value) (end ∷ []) rest);
    only = λ other more fits e.
        let same = word_only end word (spell other) rest more w.lacks (free other fits) (sym w.spelled ∙ e ∙ append_assoc (spell other) (end ∷ []) more) in
        (h.only other fits (sym same.0), sym same.1);
  }

  pub ended_nowhere : (end : ℕ) (text : List ℕ) → Lacks end text → NoFront Fits (ended spell end) text
  ended_nowhere end text h other more fits e =
      lacks-none end (spell other) more (subst_lacks e)
    where
      subst_lacks : text ≡ ended spell end other ++ more → Lacks end (spell other ++ (end ∷ more))
      subst_lacks same = rw (sym (append_assoc (spell other) (end ∷ []) more), ← same) h

  pub ended_no : (end : ℕ) (text word rest : List ℕ) → ((a : A) → Fits a → Lacks end (spell a)) → IsWord end text word rest → NoWhole Fits spell word → NoFront Fits (ended spell end) text
  ended_no end text word rest free w none other more fits e =
      let same = word_only end word (spell other) rest more w.lacks (free other fits) (sym w.spelled ∙ e ∙ append_assoc (spell other) (end ∷ []) more) in
      none other fits (sym same.0)

  -- a value, and then these bytes
  pub followed_front : (literal text rest more : List ℕ) (value : A) → IsFront Fits spell text value rest → rest ≡ literal ++ more → IsFront Fits (followed spell literal) text value more
  followed_front literal text rest more value h e = record {
    fits = h.fits;
    spelled = h.spelled ∙ ap (λ (t : List ℕ). spell value ++ t) e ∙ sym (append_assoc (spell value) literal more);
    only = λ other m fits f.
        let same = h.only other (literal ++ m) fits (f ∙ append_assoc (spell other) literal m) in
        (same.0, append_cancel_left literal m more (same.1 ∙ e));
  }

  pub followed_none : (literal text : List ℕ) → NoFront Fits spell text → NoFront Fits (followed spell literal) text
  followed_none literal text none other more fits e = none other (literal ++ more) fits (e ∙ append_assoc (spell other) literal more)

  pub followed_no : (literal text rest : List ℕ) (value : A) → IsFront Fits spell text value rest → ((more : List ℕ) → rest ≢ literal ++ more) → NoFront Fits (followed spell literal) text
  followed_no literal text rest value h nay other more fits e =
      let same = h.only other (literal ++ more) fits (e ∙ append_assoc (spell other) literal more) in
      nay more (sym same.1)

module _ {A B : Type 0} (P : A → Type 0) (f : A → List ℕ) (Q : B → Type 0) (g : B → List ℕ) where
  pub both_front : (text rest more : List ℕ) (a : A) (b : B) → IsFront P f text a rest → IsFront Q g rest b more → IsFront (BothFit P Q) (both f g) text (a, b) more
  both_front text rest more a b h k = record {
    fits = (h.fits, k.fits);
    spelled = h.spelled ∙ ap (λ (t : List ℕ). f a ++ t) k.spelled ∙ sym (append_assoc (f a) (g b) more);
    only = λ other m fits e.
        let first = h.only other.0 (g other.1 ++ m) fits.0 (e ∙ append_assoc (f other.0) (g other.1) m) in
        let second = k.only other.1 m fits.1 (sym first.1) in
        (λ i. (first.0 i, second.0 i), second.1);
  }

  pub both_none : (text : List ℕ) → NoFront P f text → NoFront (BothFit P Q) (both f g) text
  both_none text none other more fits e = none other.0 (g other.1 ++ more) fits.0 (e ∙ append_assoc (f other.0) (g other.1) more)

  pub both_no : (text rest : List ℕ) (a : A) → IsFront P f text a rest → NoFront Q g rest → NoFront (BothFit P Q) (both f g) text
  both_no text rest a h none other more fits e =
      let first = h.only other.0 (g other.1 ++ more) fits.0 (e ∙ append_assoc (f other.0) (g other.1) more) in
      none other.1 more fits.1 (sym first.1)

  -- a value made of another one, with no other form
  pub changed_front : (to : A → B) (from : B → A)
      → ((b : B) → Q b → P (from b))
      → ((b : B) → to (from b) ≡ b)
      → ((b : B) → g b ≡ f (from b))
      → ((a : A) → g (to a) ≡ f a)
      → (text rest : List ℕ) (a : A)
      → IsFront P f text a rest
      → Q (to a)
      → IsFront Q g text (to a) rest
  changed_front to from fits back own same text rest a h fit = record {
    fits = fit;
    spelled = h.spelled ∙ ap (λ (t : List ℕ). t ++ rest) (sym (same a));
    only = λ other more q e.
        let first = h.only (from other) more (fits other q) (e ∙ ap (λ (t : List ℕ). t ++ more) (own other)) in
        (sym (back other) ∙ ap to first.0, first.1);
  }

  pub changed_none : (from : B → A) → ((b : B) → Q b → P (from b)) → ((b : B) → g b ≡ f (from b)) → (text : List ℕ) → NoFront P f text → NoFront Q g text
  changed_none from fits own text none other more q e = none (from other) more (fits other q) (e ∙ ap (λ (t : List ℕ). t ++ more) (own other))

  pub changed_no : (to : A → B) (from : B → A)
      → ((b : B) → Q b → P (from b))
      → ((b : B) → to (from b) ≡ b)
      → ((b : B) → g b ≡ f (from b))
      → (text rest : List ℕ) (a : A)
      → IsFront P f text a rest
      → ¬ (Q (to a))
      → NoFront Q g text
  changed_no to from fits back own text rest a h unfit other more q e =
      let first = h.only (from other) more (fits other q) (e ∙ ap (λ (t : List ℕ). t ++ more) (own other)) in
      unfit (rw (← first.0, back other) q)
