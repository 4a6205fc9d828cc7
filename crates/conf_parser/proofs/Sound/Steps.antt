-- A value that is changed, and the settings of a text, keep what each step keeps.
use Rattle.std.proofs.Common.{◌≡◌, ℕ, ◌≤◌, ◌<◌, Bool, false, List, ◌∷◌, ◌++◌, length, length-append, Option, Result, Ok, Err, arith, []}
use Rattle.std.specs.Prelude.{nat_le}
use Rattle.std.proofs.lemmas.Bool.Decides.{nat_tests}
use Rattle.net_lists.specs.Numbers.{number_in}
use Rattle.net_lists.specs.Cutting.{settings}
use Rattle.net_lists.proofs.Steps.{Holds, given, refused, folded, ranged}
use Rattle.conf_parser.specs.declared.line.ConfKind.{ConfKind}
use Rattle.conf_parser.specs.Values.{or_kind, mapped}
use Rattle.conf_parser.specs.Options.{paired, settings_after}
use Rattle.conf_types.specs.Sound.{IsWithin}

-- a value changed: by what is known of it, any value, and a number within a range
module _ {A B : Type 0} {Q : B → Type 0} (f : A → B) where
  pub changed : {P : A → Type 0} {r : Result A ConfKind} → Holds P r → ((x : A) → P x → Q (f x)) → Holds Q (mapped f r)
  changed {r = Ok x} p q = given (q x p.holds)
  changed {r = Err kind} p q = refused

  pub free : (r : Result A ConfKind) → ((x : A) → Q (f x)) → Holds Q (mapped f r)
  free (Ok x) q = given (q x)
  free (Err kind) q = refused

pub numbered : {B : Type 0} {Q : B → Type 0} (f : ℕ → B) (kind : ConfKind) (least most : ℕ) (text : List ℕ)
    → ((n : ℕ) → IsWithin least most n → Q (f n))
    → Holds Q (mapped f (or_kind kind (number_in least most text)))
numbered f kind least most text q = changed f (ranged kind least most text) q

-- the settings of a text keep what each setting keeps
pub set : {A : Type 0} {P : A → Type 0} (alone : List ℕ → Bool) {step : A → List ℕ → Option (List ℕ) → Result A ConfKind}
    → ((d : A) (name : List ℕ) (value : Option (List ℕ)) → P d → Holds P (step d name value))
    → (d : A) (text : List ℕ)
    → P d
    → Holds P (settings_after alone step d text)
set alone keeps d text p = folded (λ e s q. keeps e s.name s.value q) d (paired alone (settings text)) p

-- ---- counts

below : (n : ℕ) → nat_le 1024 n ≡ false → n < 1024
below n few = grind (arith, nat_tests)

-- one more, where there are fewer than 1024
pub pushed-few : {X : Type 0} (xs : List X) (x : X) → nat_le 1024 (length xs) ≡ false → length (xs ++ x ∷ []) ≤ 1024
pushed-few xs x few = omega (arith, below (length xs) few, length-append xs (x ∷ []))
