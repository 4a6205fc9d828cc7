-- The order of ends is total, so the key of two ends doesn't depend on their order.
use Rattle.std.proofs.Common.{◌≡◌, ℕ, Bool, true, false, cond, ◌&&◌, ◌||◌, eqb, ltb, refl, sym, ap, ◌∙◌, arith}
use Rattle.std.specs.Ordering.{partial_lt}
use Rattle.std.proofs.lemmas.Bool.{false≢true}
use Rattle.std.proofs.lemmas.Bool.Decides.{nat_tests}
use Rattle.edge_io.specs.declared.address.Addr.{Addr}
use Rattle.edge_io.specs.declared.address.Addr.TheVariants.{V4, V6}
use Rattle.stream5_sessions.specs.declared.key.End.{End}
use Rattle.stream5_sessions.specs.contracts.key.EndPartialOrd.TheImpl.{partial_cmp-value}
use Rattle.edge_io.specs.Addresses.{same_addr}
use Rattle.stream5_sessions.specs.Keys.{is_addr_before, is_end_before, key_of}
use Rattle.stream5_sessions.proofs.KeyLaws.{end_is, end_at, key_at}

numbers_4 : (x y p q : ℕ) → partial_lt partial_cmp-value.it (end_at (V4 x) p) (end_at (V4 y) q) ≡ (ltb x y || (eqb x y && ltb p q))
numbers_4 x y p q = grind (arith, nat_tests)

numbers_6 : (x y p q : ℕ) → partial_lt partial_cmp-value.it (end_at (V6 x) p) (end_at (V6 y) q) ≡ (ltb x y || (eqb x y && ltb p q))
numbers_6 x y p q = grind (arith, nat_tests)

before_parts : (x y : Addr) (p q : ℕ) → partial_lt partial_cmp-value.it (end_at x p) (end_at y q) ≡ (is_addr_before x y || (same_addr x y && ltb p q))
before_parts (V4 x) (V4 y) p q = numbers_4 x y p q
before_parts (V4 x) (V6 y) p q = refl
before_parts (V6 x) (V4 y) p q = refl
before_parts (V6 x) (V6 y) p q = numbers_6 x y p q

pub lt-before : (a b : End) → partial_lt partial_cmp-value.it a b ≡ is_end_before a b
lt-before a b = before_parts a.addr b.addr a.port b.port

numbers_one_way : (x y p q : ℕ) → (ltb x y || (eqb x y && ltb p q)) ≡ true → (ltb y x || (eqb y x && ltb q p)) ≡ false
numbers_one_way x y p q h = grind (arith, nat_tests)

numbers_some_way : (x y p q : ℕ) → (ltb x y || (eqb x y && ltb p q)) ≡ false → (ltb y x || (eqb y x && ltb q p)) ≡ false → (eqb x y && eqb p q) ≡ true
numbers_some_way x y p q h g = grind (arith, nat_tests)

one_way : (x y : Addr) (p q : ℕ) → (is_addr_before x y || (same_addr x y && ltb p q)) ≡ true → (is_addr_before y x || (same_addr y x && ltb q p)) ≡ false
one_way (V4 x) (V4 y) p q h = numbers_one_way x y p q h
one_way (V4 x) (V6 y) p q h = refl
one_way (V6 x) (V4 y) p q h = absurd (false≢true h)
one_way (V6 x) (V6 y) p q h = numbers_one_way x y p q h

some_way : (x y : Addr) (p q : ℕ) → (is_addr_before x y || (same_addr x y && ltb p q)) ≡ false → (is_addr_before y x || (same_addr y x && ltb q p)) ≡ false → (same_addr x y && eqb p q) ≡ true
some_way (V4 x) (V4 y) p q h g = numbers_some_way x y p q h g
some_way (V4 x) (V6 y) p q h g = absurd (false≢true (sym h))
some_way (V6 x) (V4 y) p q h g = absurd (false≢true (sym g))
some_way (V6 x) (V6 y) p q h g = numbers_some_way x y p q h g

pub key_of-then : (tcp : Bool) (a b : End) → is_end_before b a ≡ true → key_of tcp b a ≡ key_at tcp b a
unfolding key_of
key_of-then tcp a b h = rw (one_way b.addr a.addr b.port a.port h)

pub key_of-else : (tcp : Bool) (a b : End) → is_end_before b a ≡ false → key_of tcp b a ≡ key_at tcp a b
unfolding key_of
key_of-else tcp a b h = (elim (is_end_before a b) as (λ x. is_end_before a b ≡ x → cond x (key_at tcp a b) (key_at tcp b a) ≡ key_at tcp a b) [
  | true ↦ λ t. refl
  | false ↦ λ t. let same : a ≡ b = end_is a b (some_way a.addr b.addr a.port b.port t h) in ap (λ (e : End). key_at tcp e a) (sym same) ∙ ap (key_at tcp a) same
]) refl
