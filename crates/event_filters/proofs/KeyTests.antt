-- Two keys are the same exactly where they are equal; the test of the map's keys is the same test.
use Rattle.std.proofs.Common.{◌≡◌, ℕ, Bool, true, false, ◌&&◌, eqb, refl, sym, ap, subst, ◌∙◌, rules}
use Rattle.std.specs.Cmp.Derive.{both_true}
use Rattle.std.proofs.lemmas.Bool.{eqb-true, eq-eqb}
use mathlib.Core.Path.{fun_ext}
use Rattle.event_filters.specs.contracts.counting.CountKeyPartialEq.TheImpl.{eq-value}
use Rattle.event_filters.specs.declared.counting.CountKey.{CountKey}
use Rattle.edge_io.specs.declared.address.Addr.{Addr}
use Rattle.edge_io.specs.Addresses.{same_addr}
use Rattle.edge_io.proofs.Addresses.{same_addr-refl, same_addr-true}
use Rattle.event_filters.specs.Keys.{same_key}

pub keys_test : eq-value.it ≡ same_key
keys_test = fun_ext (λ (a : CountKey). fun_ext (λ (b : CountKey). search rules))

left_true : (a b : Bool) → (a && b) ≡ true → a ≡ true
left_true true b is = refl
left_true false b is = cc

right_true : (a b : Bool) → (a && b) ≡ true → b ≡ true
right_true true b is = is
right_true false b is = cc

pub same_key-refl : (k : CountKey) → same_key k k ≡ true
same_key-refl k = both_true (both_true (both_true (eq-eqb k.place k.place refl) (eq-eqb k.gid k.gid refl)) (eq-eqb k.sid k.sid refl)) (same_addr-refl k.addr)

abbrev key : ℕ → ℕ → ℕ → Addr → CountKey
key place gid sid addr = record { place = place; gid = gid; sid = sid; addr = addr }

pub same_key-true : (a b : CountKey) → same_key a b ≡ true → a ≡ b
same_key-true a b is =
    let three = left_true (eqb a.place b.place && eqb a.gid b.gid && eqb a.sid b.sid) (same_addr a.addr b.addr) is in
    let two = left_true (eqb a.place b.place && eqb a.gid b.gid) (eqb a.sid b.sid) three in
    let place = eqb-true a.place b.place (left_true (eqb a.place b.place) (eqb a.gid b.gid) two) in
    let gid = eqb-true a.gid b.gid (right_true (eqb a.place b.place) (eqb a.gid b.gid) two) in
    let sid = eqb-true a.sid b.sid (right_true (eqb a.place b.place && eqb a.gid b.gid) (eqb a.sid b.sid) three) in
    let addr = same_addr-true a.addr b.addr (right_true (eqb a.place b.place && eqb a.gid b.gid && eqb a.sid b.sid) (same_addr a.addr b.addr) is) in
    ap (λ p. key p a.gid a.sid a.addr) place ∙ ap (λ g. key b.place g a.sid a.addr) gid ∙ ap (λ s. key b.place b.gid s a.addr) sid ∙ ap (key b.place b.gid b.sid) addr

same_bool : (s t : Bool) → (s ≡ true → t ≡ true) → (t ≡ true → s ≡ true) → s ≡ t
same_bool true t there back = sym (there refl)
same_bool false true there back = back refl
same_bool false false there back = refl

flip : (a b : CountKey) → same_key a b ≡ true → same_key b a ≡ true
flip a b is = let e = same_key-true a b is in subst (λ k. same_key k a ≡ true) e (same_key-refl a)

pub same_key-sym : (a b : CountKey) → same_key a b ≡ same_key b a
same_key-sym a b = same_bool (same_key a b) (same_key b a) (flip a b) (flip b a)
