-- A list of single ports has a port just where it is one of them.
use Rattle.std.proofs.Common.{◌≡◌, ℕ, ◌<◌, ◌==◌, Bool, true, false, not, ◌&&◌, ◌||◌, List, [], ◌∷◌, length, map, refl, ap, ◌∙◌, arith}
use Rattle.std.specs.List.{list_any}
use Rattle.std.proofs.lemmas.Bool.Decides.{nat_tests}
use Rattle.net_lists.specs.declared.part.ValueBounds.{ValueBounds}
use Rattle.net_lists.specs.declared.part.Part.{Part}
use Rattle.net_lists.specs.Parts.{one_port}
use Rattle.net_lists.specs.Membership.{is_in, has_port}

one_test : (port p : ℕ) → is_in port (one_port p) ≡ (p == port)
one_test port p = grind (arith, nat_tests)

some-is : (port : ℕ) (ports : List ℕ) → list_any (λ (part : Part (ValueBounds ℕ)). not part.negated && is_in port part) (map one_port ports) ≡ list_any (λ p. p == port) ports
some-is port [] = refl
some-is port (p ∷ ports) = λ i. one_test port p i || some-is port ports i

none-is : (port : ℕ) (ports : List ℕ) → list_any (λ (part : Part (ValueBounds ℕ)). part.negated && is_in port part) (map one_port ports) ≡ false
none-is port [] = refl
none-is port (p ∷ ports) = none-is port ports

or-false : (b : Bool) → (b || false) ≡ b
or-false true = refl
or-false false = refl

and-true : (b : Bool) → (b && true) ≡ b
and-true true = refl
and-true false = refl

has_port-single : (port p : ℕ) (ports : List ℕ) → has_port (map one_port (p ∷ ports)) port ≡ list_any (λ q. q == port) (p ∷ ports)
unfolding has_port
has_port-single port p ports =
    ap (λ b. (list_any (λ (part : Part (ValueBounds ℕ)). not part.negated && is_in port part) (map one_port (p ∷ ports)) || false) && not b) (none-is port (p ∷ ports))
    ∙ and-true (list_any (λ (part : Part (ValueBounds ℕ)). not part.negated && is_in port part) (map one_port (p ∷ ports)) || false)
    ∙ or-false (list_any (λ (part : Part (ValueBounds ℕ)). not part.negated && is_in port part) (map one_port (p ∷ ports)))
    ∙ some-is port (p ∷ ports)

pub has_port-any : (port : ℕ) (ports : List ℕ) → 0 < length ports → has_port (map one_port ports) port ≡ list_any (λ p. p == port) ports
has_port-any port [] some = absurd (omega arith)
has_port-any port (p ∷ ports) some = has_port-single port p ports
