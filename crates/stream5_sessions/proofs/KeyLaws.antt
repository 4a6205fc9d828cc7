-- Keys are one where the test says so.
use Rattle.std.proofs.Common.{cond, ◌≡◌, ℕ, Bool, true, false, refl, ap, ◌∙◌, sym, not, ◌&&◌, eqb}
use Rattle.std.proofs.Common.{eq-eqb}
use Rattle.std.proofs.lemmas.Bool.{false≢true, eqb-true}
use mathlib.Core.Path.{fun_ext}
use mathlib.Core.Bool.{beq}
use Rattle.edge_io.specs.declared.address.Addr.{Addr}
use Rattle.edge_io.specs.declared.address.Addr.TheVariants.{V4, V6}
use Rattle.stream5_sessions.specs.declared.key.End.{End}
use Rattle.stream5_sessions.specs.declared.key.Key.{Key}
use Rattle.stream5_sessions.specs.contracts.key.KeyPartialEq.TheImpl.{eq-value}
use Rattle.stream5_sessions.specs.contracts.key.EndPartialEq.TheImpl.{eq-value as end}
use Rattle.edge_io.specs.Addresses.{same_addr}
use Rattle.edge_io.proofs.Addresses.{same_addr-refl, same_addr-true}
use Rattle.stream5_sessions.specs.Keys.{is_of, same_end, same_key}

end_parts : (x y : Addr) (p q : ℕ) → end.it (record { addr = x; port = p }) (record { addr = y; port = q }) ≡ (same_addr x y && eqb p q)
end_parts (V4 x) (V4 y) p q = refl
end_parts (V4 x) (V6 y) p q = refl
end_parts (V6 x) (V4 y) p q = refl
end_parts (V6 x) (V6 y) p q = refl

pub bools : (a b : Bool) → beq a b ≡ cond a b (not b)
bools true true = refl
bools true false = refl
bools false true = refl
bools false false = refl

and_assoc : (a b c : Bool) → (a && (b && c)) ≡ ((a && b) && c)
and_assoc true b c = refl
and_assoc false b c = refl

pub eq-same_key : (a b : Key) → eq-value.it a b ≡ same_key a b
unfolding same_key
eq-same_key a b =
    ap (λ (x : Bool). x && (end.it a.low b.low && end.it a.high b.high)) (bools a.tcp b.tcp)
    ∙ ap (λ (x : Bool). is_of a.tcp b && (x && end.it a.high b.high)) (end_parts a.low.addr b.low.addr a.low.port b.low.port)
    ∙ ap (λ (x : Bool). is_of a.tcp b && (same_end a.low b.low && x)) (end_parts a.high.addr b.high.addr a.high.port b.high.port)
    ∙ and_assoc (is_of a.tcp b) (same_end a.low b.low) (same_end a.high b.high)

-- the test by the derived `==` is this one
pub test_is : (a : Key) → eq-value.it a ≡ same_key a
test_is a = fun_ext (eq-same_key a)

beq_self : (b : Bool) → cond b b (not b) ≡ true
beq_self true = refl
beq_self false = refl

end_self : (a : End) → same_end a a ≡ true
end_self a = rw (same_addr-refl a.addr, eq-eqb a.port a.port refl)

pub same_key-self : (a : Key) → same_key a a ≡ true
unfolding same_key
same_key-self a = rw (beq_self a.tcp, end_self a.low, end_self a.high)

both : (a b : Bool) → (a && b) ≡ true → (a ≡ true) × (b ≡ true)
both true b h = (refl, h)
both false b h = absurd (false≢true h)

abbrev pub end_at : Addr → ℕ → End
end_at x p = record { addr = x; port = p }

pub end_is : (a b : End) → same_end a b ≡ true → a ≡ b
end_is a b h =
    let parts = both (same_addr a.addr b.addr) (eqb a.port b.port) h in
    let addr : a.addr ≡ b.addr = same_addr-true a.addr b.addr parts.0 in
    let port : a.port ≡ b.port = eqb-true a.port b.port parts.1 in
    ap (λ (x : Addr). end_at x a.port) addr ∙ ap (end_at b.addr) port

bool_is : (a b : Bool) → cond a b (not b) ≡ true → a ≡ b
bool_is true true h = refl
bool_is true false h = absurd (false≢true h)
bool_is false true h = absurd (false≢true h)
bool_is false false h = refl

abbrev pub key_at : Bool → End → End → Key
key_at tcp low high = record { tcp = tcp; low = low; high = high }

pub same_key-is : (a b : Key) → same_key a b ≡ true → a ≡ b
unfolding same_key
same_key-is a b h =
    let ends = both (is_of a.tcp b && same_end a.low b.low) (same_end a.high b.high) h in
    let front = both (is_of a.tcp b) (same_end a.low b.low) ends.0 in
    let tcp : a.tcp ≡ b.tcp = bool_is a.tcp b.tcp front.0 in
    let low : a.low ≡ b.low = end_is a.low b.low front.1 in
    let high : a.high ≡ b.high = end_is a.high b.high ends.1 in
    ap (λ (x : Bool). key_at x a.low a.high) tcp ∙ ap (λ (x : End). key_at b.tcp x a.high) low ∙ ap (key_at b.tcp b.low) high

-- keys of different protocols are apart
pub same_key-other : (a b : Key) → is_of a.tcp b ≡ false → same_key a b ≡ false
unfolding same_key
same_key-other a b h = rw h

-- where one key is the other, the other is the one
pub same_key-flips : (a b : Key) → same_key a b ≡ false → same_key b a ≡ false
same_key-flips a b h = (elim (same_key b a) as (λ x. same_key b a ≡ x → x ≡ false) [
  | true ↦ λ t. absurd (false≢true (sym h ∙ ap (λ (k : Key). same_key a k) (same_key-is b a t) ∙ same_key-self a))
  | false ↦ λ t. refl
]) refl

-- ends are one where the derived `==` says so
pub end_eq-same_end : (a b : End) → end.it a b ≡ same_end a b
end_eq-same_end a b = end_parts a.addr b.addr a.port b.port
