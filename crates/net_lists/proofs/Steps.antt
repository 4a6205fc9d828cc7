-- What a step that may fail gives where it doesn't: a property of its value, kept from step to step.
use Rattle.std.proofs.Common.{◌≡◌, ℕ, ◌≤◌, ◌&&◌, Bool, true, false, cond, Option, Some, None, Result, Ok, Err, List, [], ◌∷◌, nat_le, option_and_then, refl, arith, IfSome, IfOk}
use Rattle.std.proofs.lemmas.Bool.Decides.{nat_tests}
use Rattle.edge_io.specs.OnResult.{◌>>=◌}
use Rattle.net_lists.specs.Folds.{draft_after}
use Rattle.net_lists.specs.Numbers.{number_in, kept_in, whole_number}
use Rattle.net_lists.specs.Stops.{or_kind}

-- the value of a step has this property, if there is a value
pub record Holds {A K : Type 0} (P : A → Type 0) (r : Result A K) : Type 0 where
  pub holds : IfOk r P

module _ {A K : Type 0} {P : A → Type 0} where
  pub given : {x : A} → P x → Holds {K = K} P (Ok x)
  given p = record { holds = p }

  pub refused : {kind : K} → Holds P (Err kind)
  refused = record { holds = tt }

  -- one or the other, by a test
  pub tested : (test : Bool) {r s : Result A K} → (test ≡ true → Holds P r) → (test ≡ false → Holds P s) → Holds P (cond test r s)
  tested true p q = p refl
  tested false p q = q refl

  -- refused where the test holds
  pub unless : (test : Bool) (kind : K) {r : Result A K} → (test ≡ false → Holds P r) → Holds P (cond test (Err kind) r)
  unless test kind q = tested test (λ _. refused) q

  -- a value that may lack
  pub kinded : (kind : K) (o : Option A) → IfSome o P → Holds P (or_kind kind o)
  kinded kind None p = refused
  kinded kind (Some x) p = given p

-- a weaker property
pub weaker : {A K : Type 0} {P Q : A → Type 0} {r : Result A K} → Holds P r → ((x : A) → P x → Q x) → Holds Q r
weaker {r = Ok x} p q = given (q x p.holds)
weaker {r = Err kind} p q = refused

-- a step and then the next, by what is known of the first one's value
pub chained : {A B K : Type 0} {P : A → Type 0} {Q : B → Type 0} {r : Result A K} {next : A → Result B K} → Holds P r → ((x : A) → P x → Holds Q (next x)) → Holds Q (r >>= next)
chained {r = Ok x} p q = q x p.holds
chained {r = Err kind} p q = refused

-- a step and then the next, whatever the first one gives
pub after_any : {A B K : Type 0} {Q : B → Type 0} (r : Result A K) {next : A → Result B K} → ((x : A) → Holds Q (next x)) → Holds Q (r >>= next)
after_any (Ok x) q = q x
after_any (Err kind) q = refused

-- what `search` lists where nothing is known of a step's value
pub ruleset steps = (given, refused, tested, after_any)

-- a fold over parts keeps what each part keeps
pub folded : {D X K : Type 0} {P : D → Type 0} {step : D → X → Result D K}
    → ((draft : D) (part : X) → P draft → Holds P (step draft part))
    → (draft : D) (parts : List X)
    → P draft
    → Holds P (draft_after step draft parts)
unfolding draft_after
folded keeps draft [] p = given p
folded keeps draft (part ∷ parts) p = chained (keeps draft part p) (λ next q. folded keeps next parts q)

-- a number that is read lies in its range
pub number_in-within : (least most : ℕ) (text : List ℕ) → IfSome (number_in least most text) (λ number. (least ≤ number) × (number ≤ most))
unfolding number_in
number_in-within least most text = read (whole_number text)
  where
    kept : (number : ℕ) (b : Bool) → (nat_le least number && nat_le number most) ≡ b → IfSome (cond b (Some number) None) (λ number. (least ≤ number) × (number ≤ most))
    kept number true e = (grind (arith, nat_tests), grind (arith, nat_tests))
    kept number false e = tt

    read : (o : Option ℕ) → IfSome (option_and_then (kept_in least most) o) (λ number. (least ≤ number) × (number ≤ most))
    read None = tt
    read (Some number) = kept number (nat_le least number && nat_le number most) refl

pub ranged : {K : Type 0} (kind : K) (least most : ℕ) (text : List ℕ) → Holds (λ number. (least ≤ number) × (number ≤ most)) (or_kind kind (number_in least most text))
ranged kind least most text = kinded kind (number_in least most text) (number_in-within least most text)
