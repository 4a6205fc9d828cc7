-- The entry with the longest prefix, as it is looked for: by each length from the longest down.
use Rattle.std.proofs.Common.{◌≡◌, ℕ, zero, suc, ◌+◌, ◌<◌, Bool, true, false, ◌&&◌, cond, eqb, ltb, List, [], ◌∷◌, Option, Some, None, refl, sym, ap, ◌∙◌, arith, add-one, filter}
use Rattle.std.specs.Prelude.{IfSome, All}
use Rattle.std.specs.List.{find}
use Rattle.std.specs.Option.{option_or}
use Rattle.std.proofs.lemmas.Bool.{eqb-true}
use Rattle.std.proofs.lemmas.Bool.Decides.{nat_tests}
use Rattle.std.proofs.lemmas.List.Elements.{All-head, All-tail}
use Rattle.edge_io.specs.declared.address.Addr.{Addr}
use Rattle.edge_io.specs.declared.address.Addr.TheVariants.{V4, V6}
use Rattle.net_lists.specs.declared.network.Network.{Network}
use Rattle.net_lists.specs.Addresses.{IsNetwork, network_at, bits_of}
use Rattle.host_table.specs.declared.host_line.HostLine.{HostLine}
use Rattle.edge_io.specs.Addresses.{same_addr}
use Rattle.host_table.specs.HostLine.{same_network}
use Rattle.host_table.specs.Hosts.{has_address, longer, longest, entry_at}
use Rattle.host_table.proofs.Networks.{same_network-is}

abbrev length_of : HostLine → ℕ
length_of entry = entry.network.length

-- the entry whose prefix has this length and has the address
abbrev pub at_length : List HostLine → Addr → ℕ → Option HostLine
at_length entries addr length = find (λ entry. same_network entry.network (network_at addr length)) entries

-- the entry with the longest prefix below this length that has the address
unfoldable pub below : List HostLine → Addr → ℕ → Option HostLine
below entries addr zero = None
below entries addr (suc length) = option_or (at_length entries addr length) (below entries addr length)

pub below-next : (entries : List HostLine) (addr : Addr) (length : ℕ) → below entries addr (length + 1) ≡ option_or (at_length entries addr length) (below entries addr length)
unfolding below
below-next entries addr length = rw add-one refl

-- one step down, over what is found at a length n and below it
step : (entry : HostLine) (has : Bool) (n : ℕ) (at under : Option HostLine) → IfSome at (λ e. length_of e ≡ n) → IfSome under (λ e. length_of e < n) →
    option_or (cond (has && eqb (length_of entry) n) (Some entry) at) (cond (has && ltb (length_of entry) n) (Some (longer entry under)) under)
    ≡ cond (has && ltb (length_of entry) (suc n)) (Some (longer entry (option_or at under))) (option_or at under)
step entry false n at under a u = refl
step entry true n (Some e) (Some o) a u = grind (arith, nat_tests)
step entry true n (Some e) None a u = grind (arith, nat_tests)
step entry true n None (Some o) a u = grind (arith, nat_tests)
step entry true n None None a u = grind (arith, nat_tests)

and_true : (b : Bool) → (b && true) ≡ b
and_true true = refl
and_true false = refl

and_false : (b : Bool) → (b && false) ≡ false
and_false true = refl
and_false false = refl

pub length-network_at : (addr : Addr) (n : ℕ) → (network_at addr n).length ≡ n
length-network_at (V4 value) n = refl
length-network_at (V6 value) n = refl

-- an entry is the one of this length where it has the address and its prefix has the length
is_at : (entry : HostLine) (addr : Addr) (n : ℕ) → same_network entry.network (network_at addr n) ≡ (has_address addr entry && eqb (length_of entry) n)
unfolding same_network has_address
is_at entry addr n = by (eqb (length_of entry) n) refl where
  test_at : (m : ℕ) → same_network entry.network (network_at addr m) ≡ (eqb (length_of entry) m && same_addr entry.network.first (network_at addr m).first)
  test_at m = ap (λ k. eqb (length_of entry) k && same_addr entry.network.first (network_at addr m).first) (length-network_at addr m)

  by : (b : Bool) → eqb (length_of entry) n ≡ b → same_network entry.network (network_at addr n) ≡ (has_address addr entry && eqb (length_of entry) n)
  by true is =
      let same : length_of entry ≡ n = eqb-true (length_of entry) n is in
      ap (λ m. same_network entry.network (network_at addr m)) (sym same)
      ∙ sym (and_true (has_address addr entry)) ∙ ap (λ b. has_address addr entry && b) (sym is)
  by false is =
      test_at n ∙ ap (λ b. b && same_addr entry.network.first (network_at addr n).first) is
      ∙ sym (and_false (has_address addr entry)) ∙ ap (λ b. has_address addr entry && b) (sym is)

found : (entries : List HostLine) (addr : Addr) (n : ℕ) → IfSome (at_length entries addr n) (λ e. length_of e ≡ n)
found [] addr n = tt
found (entry ∷ rest) addr n = by (same_network entry.network (network_at addr n)) refl (found rest addr n) where
  by : (b : Bool)
      → same_network entry.network (network_at addr n) ≡ b
      → IfSome (at_length rest addr n) (λ e. length_of e ≡ n)
      → IfSome (cond b (Some entry) (at_length rest addr n)) (λ e. length_of e ≡ n)
  by true is later = ap (λ (net : Network). net.length) (same_network-is entry.network (network_at addr n) is) ∙ length-network_at addr n
  by false is later = later

or_below : (at under : Option HostLine) (n : ℕ) → IfSome at (λ e. length_of e ≡ n) → IfSome under (λ e. length_of e < n) → IfSome (option_or at under) (λ e. length_of e < suc n)
or_below (Some e) under n a u = omega (arith, a)
or_below None (Some o) n a u = omega (arith, u)
or_below None None n a u = tt

short : (entries : List HostLine) (addr : Addr) (n : ℕ) → IfSome (below entries addr n) (λ e. length_of e < n)
unfolding below
short entries addr zero = tt
short entries addr (suc n) = or_below (at_length entries addr n) (below entries addr n) n (found entries addr n) (short entries addr n)

-- one entry more in front
more : (entry : HostLine) (rest : List HostLine) (addr : Addr) (n : ℕ)
    → below (entry ∷ rest) addr n ≡
    cond (has_address addr entry && ltb (length_of entry) n) (Some (longer entry (below rest addr n))) (below rest addr n)
unfolding below
more entry rest addr zero = grind (arith, nat_tests)
more entry rest addr (suc n) =
    ap (λ b. option_or (cond b (Some entry) (at_length rest addr n)) (below (entry ∷ rest) addr n)) (is_at entry addr n)
    ∙ ap (option_or (cond (has_address addr entry && eqb (length_of entry) n) (Some entry) (at_length rest addr n))) (more entry rest addr n)
    ∙ step entry (has_address addr entry) n (at_length rest addr n) (below rest addr n) (found rest addr n) (short rest addr n)

bits-network_at : (addr : Addr) (n : ℕ) → bits_of (network_at addr n).first ≡ bits_of addr
bits-network_at (V4 value) n = refl
bits-network_at (V6 value) n = refl

nothing_below : (entries : List HostLine) (addr : Addr) (n : ℕ) → entries ≡ [] → below entries addr n ≡ None
unfolding below
nothing_below [] addr zero is = refl
nothing_below [] addr (suc n) is = nothing_below [] addr n refl
nothing_below (e ∷ es) addr n is = cc

-- the entry in front, if it has the address, beside what is found after it
front : (entry : HostLine) (rest : Option HostLine) (has : Bool) (n : ℕ)
    → (has ≡ true → length_of entry < n)
    → cond has (Some (longer entry rest)) rest ≡ cond (has && ltb (length_of entry) n) (Some (longer entry rest)) rest
front entry rest true n bound = let lt : length_of entry < n = bound refl in grind (arith, nat_tests)
front entry rest false n bound = refl

longest-filter : (entry : HostLine) (rest : List HostLine) (has : HostLine → Bool)
    → longest (filter has (entry ∷ rest)) ≡
    cond (has entry) (Some (longer entry (longest (filter has rest)))) (longest (filter has rest))
longest-filter entry rest has = by (has entry) where
  by : (b : Bool) → longest (cond b (entry ∷ filter has rest) (filter has rest)) ≡ cond b (Some (longer entry (longest (filter has rest)))) (longest (filter has rest))
  by true = refl
  by false = refl

-- an entry that has an address has no more bits than it
no_longer : (addr : Addr) (entry : HostLine) → IsNetwork entry.network → has_address addr entry ≡ true → length_of entry < bits_of addr + 1
unfolding has_address
no_longer addr entry sound has =
    let is = same_network-is entry.network (network_at addr (length_of entry)) has in
    let bits : bits_of entry.network.first ≡ bits_of addr = ap (λ (net : Network). bits_of net.first) is ∙ bits-network_at addr (length_of entry) in
    omega (arith, sound.0)

-- of the entries that have the address, the one with the longest prefix
pub entry_at-below : (entries : List HostLine) (addr : Addr) → All (λ entry. IsNetwork entry.network) entries → entry_at entries addr ≡ below entries addr (bits_of addr + 1)
unfolding entry_at
entry_at-below [] addr sound = sym (nothing_below [] addr (bits_of addr + 1) refl)
entry_at-below (entry ∷ rest) addr sound =
    let later = entry_at-below rest addr (All-tail (λ e. IsNetwork e.network) entry rest sound) in
    longest-filter entry rest (has_address addr)
    ∙ ap (λ o. cond (has_address addr entry) (Some (longer entry o)) o) later
    ∙ front entry (below rest addr (bits_of addr + 1)) (has_address addr entry) (bits_of addr + 1) (no_longer addr entry (All-head (λ e. IsNetwork e.network) entry rest sound))
    ∙ sym (more entry rest addr (bits_of addr + 1))
