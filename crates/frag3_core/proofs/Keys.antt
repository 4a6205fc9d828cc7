-- Two keys are the same exactly where they are equal.
use Rattle.std.proofs.Common.{◌≡◌, ℕ, Bool, true, false, ◌&&◌, eqb, refl, sym, ap, subst, ◌∙◌}
use Rattle.std.specs.Cmp.{IsEquivalence}
use Rattle.std.specs.Cmp.Derive.{both_true}
use Rattle.std.proofs.lemmas.Bool.{eqb-true, eq-eqb}
use Rattle.frag3_core.specs.declared.key.DatagramKey.{DatagramKey}
use Rattle.edge_io.specs.declared.address.Addr.{Addr}
use Rattle.edge_io.specs.Addresses.{same_addr}
use Rattle.edge_io.proofs.Addresses.{same_addr-refl, same_addr-true}
use Rattle.frag3_core.specs.Trackers.{same_key}

left_true : (a b : Bool) → (a && b) ≡ true → a ≡ true
left_true true b is = refl
left_true false b is = cc

right_true : (a b : Bool) → (a && b) ≡ true → b ≡ true
right_true true b is = is
right_true false b is = cc

pub same_key-refl : (k : DatagramKey) → same_key k k ≡ true
same_key-refl k = both_true (both_true (both_true (same_addr-refl k.src) (same_addr-refl k.dst)) (eq-eqb k.id k.id refl)) (eq-eqb k.protocol k.protocol refl)

abbrev key : Addr → Addr → ℕ → ℕ → DatagramKey
key src dst id protocol = record { src = src; dst = dst; id = id; protocol = protocol }

pub same_key-true : (a b : DatagramKey) → same_key a b ≡ true → a ≡ b
same_key-true a b is =
    let three = left_true (same_addr a.src b.src && same_addr a.dst b.dst && eqb a.id b.id) (eqb a.protocol b.protocol) is in
    let two = left_true (same_addr a.src b.src && same_addr a.dst b.dst) (eqb a.id b.id) three in
    let src = same_addr-true a.src b.src (left_true (same_addr a.src b.src) (same_addr a.dst b.dst) two) in
    let dst = same_addr-true a.dst b.dst (right_true (same_addr a.src b.src) (same_addr a.dst b.dst) two) in
    let id = eqb-true a.id b.id (right_true (same_addr a.src b.src && same_addr a.dst b.dst) (eqb a.id b.id) three) in
    let protocol = eqb-true a.protocol b.protocol (right_true (same_addr a.src b.src && same_addr a.dst b.dst && eqb a.id b.id) (eqb a.protocol b.protocol) is) in
    ap (λ s. key s a.dst a.id a.protocol) src ∙ ap (λ d. key b.src d a.id a.protocol) dst ∙ ap (λ i. key b.src b.dst i a.protocol) id ∙ ap (key b.src b.dst b.id) protocol

flip : (a b : DatagramKey) → same_key a b ≡ true → same_key b a ≡ true
flip a b is = let e = same_key-true a b is in subst (λ k. same_key k a ≡ true) e (same_key-refl a)

same_bool : (s t : Bool) → (s ≡ true → t ≡ true) → (t ≡ true → s ≡ true) → s ≡ t
same_bool true t there back = sym (there refl)
same_bool false true there back = back refl
same_bool false false there back = refl

pub same_key-equivalence : IsEquivalence same_key
same_key-equivalence = record {
  refl = same_key-refl;
  symm = λ a b. same_bool (same_key a b) (same_key b a) (flip a b) (flip b a);
  congr = λ a b c is. ap (λ k. same_key k c) (same_key-true a b is);
}

-- a key's test answers as the key of the entry that passes it
pub one_key : (k a b : DatagramKey) → same_key k a ≡ true → same_key k b ≡ same_key a b
one_key k a b is = ap (λ q. same_key q b) (same_key-true k a is)
