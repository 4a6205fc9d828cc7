-- One prefix length after another, from the longest down.
use Rattle.std.proofs.Common.{◌≡◌, ℕ, ◌+◌, ◌-◌, ◌<◌, Bool, List, [], ◌∷◌, length, get_or, Some, None, refl, sym, ap, ◌∙◌, arith}
use Rattle.std.specs.Option.{option_or}
use Rattle.edge_io.specs.declared.address.Addr.{Addr}
use Rattle.net_lists.specs.Addresses.{network_at}
use Rattle.host_table.specs.declared.host_line.HostLine.{HostLine}
use Rattle.host_table.specs.HostLine.{same_network}
use Rattle.host_table.specs.Hosts.{entry_at}
use Rattle.host_table.specs.Index.{place_of}
use Rattle.host_table.proofs.Longest.{below, below-next}
use Rattle.host_table.proofs.Places.{place-finds, place-none, place-within}

-- without entries none has the address
pub entry_at-nil : (entries : List HostLine) (addr : Addr) → length entries ≡ 0 → None ≡ entry_at entries addr
unfolding entry_at
entry_at-nil [] addr is = refl
entry_at-nil (entry ∷ entries) addr is = absurd (omega arith)

pub below-zero : (entries : List HostLine) (addr : Addr) → below entries addr 0 ≡ None
unfolding below
below-zero entries addr = refl

module _ (entries : List HostLine) (addr : Addr) (n : ℕ) where
  abbrev test : HostLine → Bool
  test entry = same_network entry.network (network_at addr n)

  -- the place at this length has an entry, which is the one with the longest prefix up to it
  pub below-found : (place : ℕ) → Some place ≡ place_of entries (network_at addr n) → (place < length entries) × ((d : HostLine) → below entries addr (n + 1) ≡ Some (get_or entries place d))
  unfolding place_of
  below-found place is = (
    omega (arith, place-within test 0 entries place (sym is)),
    λ d.
        let holds = (place-finds test 0 entries place d (sym is)).2 in
        let same : place - 0 ≡ place = omega arith in
        below-next entries addr n ∙ ap (λ o. option_or o (below entries addr n)) (holds ∙ ap (λ k. Some (get_or entries k d)) same),
  )

  -- no place at this length: it is one below
  pub below-lacking : None ≡ place_of entries (network_at addr n) → below entries addr (n + 1) ≡ below entries addr n
  unfolding place_of
  below-lacking is = below-next entries addr n ∙ ap (λ o. option_or o (below entries addr n)) (place-none test 0 entries (sym is))
