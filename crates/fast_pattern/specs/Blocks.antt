-- Blocks of ports, and an index of places by the ports that they are asked for at. This is the project's
-- own choice.
--
-- All ports are a block, and so are its two halves, the halves of these, and so on down to single ports. A
-- block of 2 ^ bits ports from `low` on has the number 2 * low + 2 ^ bits, which no other has: a part of a
-- block has a number close to its own.
-- To try it on: port 80 lies in 17 blocks: all ports (65536), the ports below 32768 (32768), and so on down
-- to 80 and 81 (162), and 80 alone (161). The list 80:95 is the block 80:95 alone, with the number 176.
use Rattle.std.specs.Prelude.{◌≡◌, ℕ, zero, suc, ◌+◌, ◌-◌, ◌*◌, ◌^◌, ◌<◌, ◌≤◌, ◌==◌, Bool, not, ◌&&◌, ◌||◌, List, ◌++◌, All, length, map, nat_lt, nat_le, take, slice_index_or, if◌then◌else◌}
use Rattle.std.specs.List.{list_any, list_all}
use Rattle.net_lists.specs.declared.part.ValueBounds.{ValueBounds}
use Rattle.net_lists.specs.declared.part.Part.{Part}
use Rattle.fast_pattern.specs.declared.index.IndexEntry.{IndexEntry}
use Rattle.fast_pattern.specs.declared.index.PortIndex.{PortIndex}
use Rattle.net_lists.specs.Membership.{has_port}
use Rattle.pattern_search.specs.Owned.{AreOwned}

-- the number of the block of 2 ^ bits ports from one on
abbrev pub number : ℕ → ℕ → ℕ
number bits low = 2 * low + 2 ^ bits

-- where that half of a block begins which has the port; the halves have 2 ^ bits ports each
abbrev pub half_with : ℕ → ℕ → ℕ → ℕ
half_with bits low port = if nat_lt port (low + 2 ^ bits) then low else low + 2 ^ bits

-- the port lies in the block with the number, which is one of 2 ^ bits ports from `low` on or a part of that
unfoldable pub lies_in : ℕ → ℕ → ℕ → ℕ → Bool
lies_in zero low port block = block == number 0 low
lies_in (suc bits) low port block = (block == number (suc bits) low) || lies_in bits (half_with bits low port) port block

-- the part has all ports from the one to the other
abbrev pub has_whole : ℕ → ℕ → Part (ValueBounds ℕ) → Bool
has_whole low high part = nat_le part.bounds.low low && nat_le high part.bounds.high

-- the part has some of them
abbrev pub meets : ℕ → ℕ → Part (ValueBounds ℕ) → Bool
meets low high part = nat_le part.bounds.low high && nat_le low part.bounds.high

-- some part that isn't negated passes the one test, or all are negated, and no negated part passes the other
unfoldable pub verdict : (Part (ValueBounds ℕ) → Bool) → (Part (ValueBounds ℕ) → Bool) → List (Part (ValueBounds ℕ)) → Bool
verdict wanted barred parts =
    (list_any (λ part. not part.negated && wanted part) parts || list_all (λ part. part.negated) parts)
    && not (list_any (λ part. part.negated && barred part) parts)

-- blocks within that of 2 ^ bits ports from `low` on were added, in which exactly the listed ports lie
pub record AddBlocks (parts : List (Part (ValueBounds ℕ))) (bits low : ℕ) (old new : List ℕ) : Type 0 where
  pub added : List ℕ
  pub is : new ≡ old ++ added
  pub within : All (λ block. (2 * low < block) × (block < 2 * low + 2 * 2 ^ bits)) added
  pub exact : (port : ℕ) → low ≤ port → port < low + 2 ^ bits → list_any (lies_in bits low port) added ≡ has_port parts port

-- the list has the number
abbrev pub has : List ℕ → ℕ → Bool
has xs place = list_any (λ x. x == place) xs

-- the entry is one of the place, at a block that passes the test
abbrev pub is_of : (ℕ → Bool) → ℕ → IndexEntry → Bool
is_of test place entry = test entry.block && (entry.place == place)

-- some entry is
abbrev pub is_filed : (ℕ → Bool) → List IndexEntry → ℕ → Bool
is_filed test entries place = list_any (is_of test place) entries

-- the blocks of entries
abbrev pub blocks_of : List IndexEntry → List ℕ
blocks_of entries = map (λ entry. entry.block) entries

-- each entry's block is one
abbrev pub AreBlocks : List IndexEntry → Type 0
AreBlocks entries = All (λ entry. (0 < entry.block) × (entry.block < 131072)) entries

-- the entries of each block form a chain
abbrev pub IsChained : PortIndex → Type 0
IsChained index = AreOwned (blocks_of index.entries.items) 131072 index.heads.items index.nexts.items (length index.entries.items)

-- the places with an entry at a block that passes the test were added
pub record AddFiled (index : PortIndex) (test : ℕ → Bool) (old new : List ℕ) : Type 0 where
  pub added : IsChained index → (place : ℕ) → has new place ≡ (has old place || is_filed test index.entries.items place)

-- the entry at a place of the list
abbrev pub entry_at : List IndexEntry → ℕ → IndexEntry
entry_at entries at = slice_index_or entries at (record { block = 0; place = 0 })

-- the entries of a block below the last one that was read, plus one, are still to be added
pub record IsFollowed (index : PortIndex) (block : ℕ) (old : List ℕ) (at : ℕ) (new : List ℕ) : Type 0 where
  pub within : IsChained index → at ≤ length index.entries.items
  pub here : IsChained index → 0 < at → (entry_at index.entries.items (at - 1)).block ≡ block
  pub added : IsChained index → (place : ℕ) → (has new place
      || is_filed (λ other. other == block) (take at index.entries.items) place)
      ≡ (has old place || is_filed (λ other. other == block) index.entries.items place)

-- an entry of the place at each block
abbrev pub entries_of : ℕ → List ℕ → List IndexEntry
entries_of place blocks = map (λ block. record { block = block; place = place }) blocks
