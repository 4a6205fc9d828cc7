-- Laws of what names a flow: both directions have the same.
use Rattle.std.proofs.Common.{◌≡◌, ℕ, ◌<◌, Bool, true, false, cond, Some, refl, sym, ap, ◌∙◌, inl, inr, arith}
use Rattle.std.specs.Prelude.{⊤}
use Rattle.std.proofs.lemmas.Bool.{cases_lt}
use Rattle.std.proofs.lemmas.Bool.Decides.{nat_tests}
use Rattle.edge_io.specs.declared.address.Addr.{Addr}
use Rattle.edge_io.specs.declared.address.Addr.TheVariants.{V4, V6}
use Rattle.alert_json.specs.declared.event.FiveTuple.{FiveTuple}
use Rattle.alert_json.specs.declared.event.Pair.TheVariants.{Ports}
use Rattle.alert_json.specs.declared.flow_ids.Ends.{Ends}
use Rattle.alert_json.specs.FlowNumbers.{address_number, is_in_order, turned, in_order, ends_of, port_hash, community_hash, number_hash}

-- both addresses are of one version
abbrev pub AreAlike : Addr → Addr → Type 0
AreAlike (V4 first) (V4 second) = ⊤
AreAlike (V4 first) (V6 second) = ⊥
AreAlike (V6 first) (V4 second) = ⊥
AreAlike (V6 first) (V6 second) = ⊤

one-address : (first second : Addr) → AreAlike first second → address_number first ≡ address_number second → first ≡ second
one-address (V4 first) (V4 second) alike same = ap V4 same
one-address (V4 first) (V6 second) alike same = absurd alike
one-address (V6 first) (V4 second) alike same = absurd alike
one-address (V6 first) (V6 second) alike same = ap V6 same

taken : (b : Bool) (x y : Ends) → b ≡ true → cond b x y ≡ x
taken true x y h = refl
taken false x y h = absurd cc

left : (b : Bool) (x y : Ends) → b ≡ false → cond b x y ≡ y
left true x y h = absurd cc
left false x y h = refl

first_smaller : (ends : Ends) → address_number ends.first < address_number ends.second → (is_in_order ends ≡ true) × (is_in_order (turned ends) ≡ false)
unfolding is_in_order turned
first_smaller ends lt = (grind (arith, nat_tests), grind (arith, nat_tests))

second_smaller : (ends : Ends) → address_number ends.second < address_number ends.first → (is_in_order ends ≡ false) × (is_in_order (turned ends) ≡ true)
unfolding is_in_order turned
second_smaller ends lt = (grind (arith, nat_tests), grind (arith, nat_tests))

here_smaller : (ends : Ends) → address_number ends.first ≡ address_number ends.second → ends.here < ends.there → (is_in_order ends ≡ true) × (is_in_order (turned ends) ≡ false)
unfolding is_in_order turned
here_smaller ends same lt = (grind (arith, nat_tests), grind (arith, nat_tests))

there_smaller : (ends : Ends) → address_number ends.first ≡ address_number ends.second → ends.there < ends.here → (is_in_order ends ≡ false) × (is_in_order (turned ends) ≡ true)
unfolding is_in_order turned
there_smaller ends same lt = (grind (arith, nat_tests), grind (arith, nat_tests))

stays : (ends : Ends) → (is_in_order ends ≡ true) × (is_in_order (turned ends) ≡ false) → in_order (turned ends) ≡ in_order ends
unfolding in_order turned
stays ends h = left _ (turned ends) ends h.1 ∙ sym (taken _ ends (turned ends) h.0)

turns : (ends : Ends) → (is_in_order ends ≡ false) × (is_in_order (turned ends) ≡ true) → in_order (turned ends) ≡ in_order ends
unfolding in_order turned
turns ends h = taken _ (turned ends) ends h.1 ∙ sym (left _ ends (turned ends) h.0)

-- ends by their parts
abbrev make : Addr → Addr → ℕ → ℕ → Ends
make first second here there = record { first = first; second = second; here = here; there = there }

same_ends : (ends : Ends) → ends.first ≡ ends.second → ends.here ≡ ends.there → turned ends ≡ ends
unfolding turned
same_ends ends first here =
    ap (λ (a : Addr). make a ends.first ends.there ends.here) (sym first)
    ∙ ap (λ (a : Addr). make ends.first a ends.there ends.here) first
    ∙ ap (λ (p : ℕ). make ends.first ends.second p ends.here) (sym here)
    ∙ ap (λ (p : ℕ). make ends.first ends.second ends.here p) here

-- the ends in order are the same from either side
pub in_order-turned : (ends : Ends) → AreAlike ends.first ends.second → in_order (turned ends) ≡ in_order ends
in_order-turned ends alike =
    elim (cases_lt (address_number ends.first) (address_number ends.second)) [
      | inl lt ↦ stays ends (first_smaller ends lt)
      | inr le ↦ elim (cases_lt (address_number ends.second) (address_number ends.first)) [
        | inl gt ↦ turns ends (second_smaller ends gt)
        | inr ge ↦
            let same : address_number ends.first ≡ address_number ends.second = omega (arith, le, ge) in
            elim (cases_lt ends.here ends.there) [
              | inl less ↦ stays ends (here_smaller ends same less)
              | inr no_less ↦ elim (cases_lt ends.there ends.here) [
                | inl more ↦ turns ends (there_smaller ends same more)
                | inr no_more ↦
                    let ports : ends.here ≡ ends.there = omega (arith, no_less, no_more) in
                    ap in_order (same_ends ends (one-address ends.first ends.second alike same) ports)
              ]
            ]
      ]
    ]

-- a flow, from its other end
abbrev pub back : FiveTuple → ℕ → ℕ → FiveTuple
back flow sport dport = record { protocol = flow.protocol; src = flow.dst; dst = flow.src; pair = Ports dport sport }

-- both directions of a flow with ports have the same community ID and the same number
pub directions_are_one : (seed : ℕ) (flow : FiveTuple) (sport dport : ℕ)
    → AreAlike flow.src flow.dst
    → community_hash seed (back flow sport dport) (Ports dport sport) ≡ community_hash seed flow (Ports sport dport)
unfolding community_hash turned
directions_are_one seed flow sport dport alike = ap (λ (ends : Ends). Some (port_hash seed flow.protocol ends)) (in_order-turned (ends_of flow sport dport) alike)

pub numbers_are_one : (flow : FiveTuple) (sport dport : ℕ) → AreAlike flow.src flow.dst → number_hash (back flow sport dport) (Ports dport sport) ≡ number_hash flow (Ports sport dport)
unfolding number_hash turned
numbers_are_one flow sport dport alike = ap (λ (ends : Ends). Some (port_hash 0 flow.protocol ends)) (in_order-turned (ends_of flow sport dport) alike)
