-- Networks are one where the test says so, and where the order of their keys says so.
use Rattle.std.proofs.Common.{◌≡◌, ℕ, Bool, true, false, ◌&&◌, eqb, eq-eqb, refl, ap, ◌∙◌, arith}
use Rattle.std.specs.Ordering.{is_eq}
use Rattle.std.proofs.lemmas.Bool.{false≢true, eqb-true}
use Rattle.std.proofs.lemmas.Bool.Decides.{nat_tests}
use Rattle.edge_io.specs.declared.address.Addr.{Addr}
use Rattle.edge_io.specs.declared.address.Addr.TheVariants.{V4, V6}
use Rattle.net_lists.specs.declared.network.Network.{Network}
use Rattle.edge_io.specs.Addresses.{same_addr}
use Rattle.edge_io.proofs.Addresses.{same_addr-refl, same_addr-true}
use Rattle.host_table.specs.HostLine.{same_network}
use Rattle.host_table.specs.Keys.{key_of, key_cmp}

both : (a b : Bool) → (a && b) ≡ true → (a ≡ true) × (b ≡ true)
both true b is = (refl, is)
both false b is = absurd (false≢true is)

abbrev net : Addr → ℕ → Network
net first length = record { first = first; length = length }

pub same_network-is : (a b : Network) → same_network a b ≡ true → a ≡ b
unfolding same_network
same_network-is a b is =
    let parts = both (eqb a.length b.length) (same_addr a.first b.first) is in
    ap (λ l. net a.first l) (eqb-true a.length b.length parts.0) ∙ ap (λ f. net f b.length) (same_addr-true a.first b.first parts.1)

pub same_network-self : (a : Network) → same_network a a ≡ true
unfolding same_network
same_network-self a = rw (eq-eqb a.length a.length refl, same_addr-refl a.first)

-- keys are equal in their order where their networks are one
pub key_test : (a b : Network) → is_eq (key_cmp (key_of a) (key_of b)) ≡ same_network a b
unfolding same_network
key_test a b = by_firsts a.first b.first where
  by_firsts : (x y : Addr) → is_eq (key_cmp (key_of (net x a.length)) (key_of (net y b.length))) ≡ same_network (net x a.length) (net y b.length)
  by_firsts (V4 x) (V4 y) = grind (arith, nat_tests)
  by_firsts (V4 x) (V6 y) = grind (arith, nat_tests)
  by_firsts (V6 x) (V4 y) = grind (arith, nat_tests)
  by_firsts (V6 x) (V6 y) = grind (arith, nat_tests)
