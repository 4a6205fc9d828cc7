-- The index of no entries, and with one entry more.
use Rattle.std.proofs.Common.{◌≡◌, ℕ, ◌<◌, ◌≤◌, Bool, true, false, cond, List, [], ◌∷◌, ◌++◌, length, get_or, set}
use Rattle.std.proofs.Common.{get_or-set_same, get_or-set_other, Option, Some, None, is_some, refl, sym, ap, ◌∙◌, arith}
use Rattle.std.specs.List.{position_from}
use Rattle.std.specs.BTreeMap.{BTreeMap, get, is_at}
use Rattle.std.specs.Map.{lookup}
use Rattle.std.proofs.lemmas.Bool.{false≢true}
use Rattle.std.proofs.lemmas.List.Elements.{All-nil, All-same, All-push}
use Rattle.edge_io.specs.declared.address.Addr.{Addr}
use Rattle.edge_io.specs.declared.address.Addr.TheVariants.{V4, V6}
use Rattle.net_lists.specs.declared.network.Network.{Network}
use Rattle.net_lists.specs.Addresses.{IsNetwork, bits_of}
use Rattle.host_table.specs.declared.host_line.HostLine.{HostLine}
use Rattle.host_table.specs.declared.key.NetworkKey.{NetworkKey}
use Rattle.host_table.specs.HostLine.{same_network, is_given}
use Rattle.host_table.specs.Index.{place_of, IsIndexed}
use Rattle.host_table.specs.Keys.{key_of, key_cmp}
use Rattle.host_table.proofs.Networks.{key_test, same_network-is}
use Rattle.host_table.proofs.Places.{any-place, place-push_first, place-push_other}

abbrev has : Network → HostLine → Bool
has net entry = same_network entry.network net

place_of-nil : (net : Network) → place_of [] net ≡ None
unfolding place_of
place_of-nil net = refl

-- no entries
pub indexed-nil : (entries : List HostLine) (places : BTreeMap NetworkKey ℕ) (lengths : List Bool) → entries ≡ [] → places.entries ≡ [] → IsIndexed entries places lengths
indexed-nil entries places lengths none empty = record {
  found = λ net. ap (lookup (is_at (key_cmp (key_of net)))) empty ∙ sym (place_of-nil net) ∙ ap (λ es. place_of es net) (sym none);
  marked = λ net fails. ap (λ es. place_of es net) none ∙ place_of-nil net;
  sound = All-same (λ e. IsNetwork e.network) entries [] none (All-nil (λ e. IsNetwork e.network));
}

-- a prefix length has a mark
pub length-marked : (net : Network) → IsNetwork net → net.length < 129
length-marked net sound = omega (arith, sound.0, bits_of-le net.first) where
  bits_of-le : (addr : Addr) → bits_of addr ≤ 128
  bits_of-le (V4 value) = omega arith
  bits_of-le (V6 value) = omega arith

-- an entry after the others
module _ (entries : List HostLine) (entry : HostLine) where
  -- an entry after the others is found at its own network
  place-own : (net : Network) → same_network entry.network net ≡ true → place_of entries entry.network ≡ None → place_of (entries ++ entry ∷ []) net ≡ Some (length entries)
  unfolding place_of
  place-own net is new =
      let same : entry.network ≡ net = same_network-is entry.network net is in
      let none : position_from (has net) 0 entries ≡ None = ap (λ (n : Network). position_from (has n) 0 entries) (sym same) ∙ new in
      place-push_first (has net) 0 entries entry none is ∙ ap Some (omega arith)

  -- an entry after the others changes no other network's place
  place-other : (net : Network) → same_network entry.network net ≡ false → place_of (entries ++ entry ∷ []) net ≡ place_of entries net
  unfolding place_of
  place-other net is = place-push_other (has net) 0 entries entry is

  pub indexed-push : (places after : BTreeMap NetworkKey ℕ) (lengths : List Bool)
      → IsIndexed entries places lengths
      → IsNetwork entry.network
      → place_of entries entry.network ≡ None
      → entry.network.length < length lengths
      → ((q : NetworkKey) →
      get key_cmp after q ≡ cond (is_at (key_cmp (key_of entry.network)) q) (Some (length entries)) (get key_cmp places q))
      → IsIndexed (entries ++ entry ∷ []) after (set lengths entry.network.length true)
  indexed-push places after lengths indexed sound new within updated = record {
    found = λ net.
        updated (key_of net)
        ∙ ap (λ b. cond b (Some (length entries)) (get key_cmp places (key_of net))) (key_test entry.network net)
        ∙ by_place net (same_network entry.network net) refl;
    marked = λ net fails. by_mark net fails (same_network entry.network net) refl;
    sound = All-push (λ e. IsNetwork e.network) entries entry indexed.sound sound;
  } where
    by_place : (net : Network) (b : Bool) → same_network entry.network net ≡ b → cond b (Some (length entries)) (get key_cmp places (key_of net)) ≡ place_of (entries ++ entry ∷ []) net
    by_place net true is = sym (place-own net is new)
    by_place net false is = indexed.found net ∙ sym (place-other net is)

    apart : (net : Network) → get_or (set lengths entry.network.length true) net.length false ≡ false → (entry.network.length ≡ net.length) → ⊥
    apart net fails same = false≢true (sym fails ∙ ap (λ n. get_or (set lengths entry.network.length true) n false) (sym same) ∙ get_or-set_same lengths entry.network.length true false within)

    by_mark : (net : Network) → get_or (set lengths entry.network.length true) net.length false ≡ false → (b : Bool) → same_network entry.network net ≡ b → place_of (entries ++ entry ∷ []) net ≡ None
    by_mark net fails true is = absurd (apart net fails (ap (λ (n : Network). n.length) (same_network-is entry.network net is)))
    by_mark net fails false is =
        place-other net is ∙ indexed.marked net (sym (get_or-set_other lengths entry.network.length net.length true false (λ same. apart net fails (sym same))) ∙ fails)

-- an entry has the network where the map has its place
pub is_given-indexed : (entries : List HostLine) (places : BTreeMap NetworkKey ℕ) (lengths : List Bool)
    → IsIndexed entries places lengths
    → (net : Network)
    → is_some (get key_cmp places (key_of net)) ≡ is_given entries net
unfolding place_of is_given
is_given-indexed entries places lengths indexed net = ap is_some (indexed.found net) ∙ sym (any-place (has net) 0 entries)

-- no place is that of a network that is not given
pub place_of-new : (entries : List HostLine) (net : Network) → is_given entries net ≡ false → place_of entries net ≡ None
unfolding place_of is_given
place_of-new entries net new = by (position_from (has net) 0 entries) (sym (any-place (has net) 0 entries) ∙ new) where
  by : (place : Option ℕ) → is_some place ≡ false → place ≡ None
  by None is = refl
  by (Some place) is = cc
