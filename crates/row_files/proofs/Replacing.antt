-- What replacing each `#` of a text makes of it.
use Rattle.std.proofs.Common.{◌≡◌, ◌≢◌, ℕ, zero, suc, ◌+◌, ◌<◌, ◌≤◌, List, [], ◌∷◌, ◌++◌, length, take, drop, Result, Ok, Err, IfOk, refl, sym, ap, subst, ◌∙◌, ⊎_elim, arith}
use Rattle.std.proofs.Math.Seq.{take-length, drop-length}
use Rattle.std.proofs.lemmas.Bool.Decides.{nat_tests}
use Rattle.std.proofs.lemmas.List.{append-nil}
use Rattle.std.specs.List.{flat_map}
use Rattle.std.specs.Str.Pattern.{LacksTextAt, FindsText}
use Rattle.std.specs.Str.Replace.{ReplacesMatches}
use Rattle.row_files.specs.Numbered.{byte_with}

-- no `#` is in these first bytes
front_stays : (to s : List ℕ) (a : ℕ) → ((i : ℕ) → i < a → LacksTextAt (35 ∷ []) s i)
    → flat_map (byte_with to) s ≡ take a s ++ flat_map (byte_with to) (drop a s)
front_stays to s zero lacks = refl
front_stays to [] (suc a) lacks = refl
front_stays to (b ∷ s) (suc a) lacks =
    let other : b ≢ 35 = λ is. lacks 0 (omega arith) s (ap (λ x. x ∷ s) is) in
    let after = front_stays to s a (λ i below rest. lacks (suc i) (omega (arith, below)) rest) in
    grind (arith, nat_tests, other, after)

module _ {P : Type 0} (text : P → List ℕ) (to : List ℕ) where
  -- the pattern is `#`
  abbrev Hashes : ℕ → P → List ℕ → List ℕ → Type 0
  Hashes = ReplacesMatches (λ p. FindsText (text p)) (λ p q. text q ≡ text p) to

  -- each `#` is replaced
  pub replaces_each : (n : ℕ) (p : P) (s out : List ℕ) → text p ≡ 35 ∷ [] → Hashes n p s out
      → out ≡ flat_map (byte_with to) s
  replaces_each zero p s out is done =
      let lacks : (i : ℕ) → i ≤ length s → LacksTextAt (35 ∷ []) s i = subst (λ t. (i : ℕ) → i ≤ length s → LacksTextAt t s i) is done.0 in
      let front = front_stays to s (length s) (λ i below. lacks i (omega (arith, below))) in
      done.1 ∙ sym (append-nil s) ∙ ap (λ t. t ++ []) (sym (take-length s))
      ∙ ap (λ t. take (length s) s ++ flat_map (byte_with to) t) (sym (drop-length s)) ∙ sym front
  replaces_each (suc n) p s out is (a, b, q, rest, found, kept, on, made) =
      let lacks : (i : ℕ) → i < a → LacksTextAt (35 ∷ []) s i = subst (λ t. (i : ℕ) → i < a → LacksTextAt t s i) is found.0 in
      let front = front_stays to s a lacks in
      let ends : b ≡ a + 1 = found.1.ends ∙ ap (λ t. a + length t) is in
      let split : drop a s ≡ 35 ∷ drop b s = found.1.split ∙ ap (λ t. t ++ drop b s) is in
      let here : flat_map (byte_with to) (drop a s) ≡ to ++ flat_map (byte_with to) (drop b s) = ap (flat_map (byte_with to)) split in
      let after : rest ≡ flat_map (byte_with to) (drop b s) =
      ⊎_elim (λ further. replaces_each n q (drop b s) rest (kept ∙ is) further.1) (λ same. absurd (omega (arith, ends, same.0))) on in
      made ∙ ap (λ t. take a s ++ (to ++ t)) after ∙ ap (λ t. take a s ++ t) (sym here) ∙ sym front

  -- each `#` is replaced in what could be made
  pub makes_each : {T E : Type 0} (bytes_of : T → List ℕ) (p : P) (s : List ℕ) (made : Result T E) → text p ≡ 35 ∷ []
      → IfOk made (λ t. (n : ℕ) × Hashes n p s (bytes_of t)) → IfOk made (λ t. bytes_of t ≡ flat_map (byte_with to) s)
  makes_each bytes_of p s (Ok t) is by = replaces_each by.0 p s (bytes_of t) is by.1
  makes_each bytes_of p s (Err why) is by = by
