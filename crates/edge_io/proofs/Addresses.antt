-- The test of two addresses holds exactly where they are one.
use Rattle.std.proofs.Common.{◌≡◌, true, refl, ap, eq-eqb, eqb-true}
use Rattle.edge_io.specs.declared.address.Addr.{Addr}
use Rattle.edge_io.specs.declared.address.Addr.TheVariants.{V4, V6}
use Rattle.edge_io.specs.Addresses.{same_addr}

pub same_addr-refl : (a : Addr) → same_addr a a ≡ true
same_addr-refl (V4 a) = eq-eqb a a refl
same_addr-refl (V6 a) = eq-eqb a a refl

pub same_addr-true : (a b : Addr) → same_addr a b ≡ true → a ≡ b
same_addr-true (V4 a) (V4 b) is = ap V4 (eqb-true a b is)
same_addr-true (V6 a) (V6 b) is = ap V6 (eqb-true a b is)
same_addr-true (V4 a) (V6 b) is = cc
same_addr-true (V6 a) (V4 b) is = cc
