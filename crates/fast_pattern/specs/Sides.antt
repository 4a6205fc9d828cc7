-- At which ports a rule is asked for. This is the project's own choice.
--
-- A rule of ip is asked for at every port. Another one has one list that tells: that of the destination, or
-- that of the source where the destination is `any`. It is asked for by the side that the list is of, and
-- under `<>` by either.
-- To try it on: `any -> 80` is in the index by destination at 80, `53 -> any` in that by source at 53,
-- `any <> 80` in both at 80, and `any -> any` in that by destination at the block of all ports, once.
use Rattle.std.specs.Prelude.{◌≡◌, ℕ, ◌==◌, ◌<◌, Bool, true, false, not, ◌&&◌, ◌||◌, List, [], Option, Some, None, length, slice_get, nat_lt, All, if◌then◌else◌}
use Rattle.std.specs.List.{list_any}
use Rattle.net_lists.specs.declared.part.ValueBounds.{ValueBounds}
use Rattle.net_lists.specs.declared.part.Part.{Part}
use Rattle.packet_decode.specs.declared.packet.Body.{Body}
use Rattle.packet_decode.specs.declared.packet.Body.TheVariants as body
use Rattle.rule_types.specs.declared.rule.Proto.{Proto}
use Rattle.rule_types.specs.declared.rule.Proto.TheVariants as proto
use Rattle.fast_pattern.specs.declared.header.RuleHead.{RuleHead}
use Rattle.fast_pattern.specs.declared.header.Transport.{Transport}
use Rattle.fast_pattern.specs.declared.index.IndexEntry.{IndexEntry}
use Rattle.fast_pattern.specs.declared.index.PortIndex.{PortIndex}
use Rattle.fast_pattern.specs.declared.sides.PacketSide.{PacketSide}
use Rattle.fast_pattern.specs.declared.sides.PacketSide.TheVariants as side
use Rattle.fast_pattern.specs.declared.sides.Sides.{Sides}
use Rattle.net_lists.specs.Membership.{has_port}
use Rattle.fast_pattern.specs.Kinds.{is_plain}
use Rattle.fast_pattern.specs.Blocks.{lies_in, has, is_filed, AreBlocks, IsChained}

-- the list is `any`
abbrev pub is_any : List (Part (ValueBounds ℕ)) → Bool
is_any ports = length ports == 0

abbrev pub is_ip : Proto → Bool
is_ip proto.Ip = true
is_ip _ = false

-- the list of ports that tells
unfoldable pub key_of : RuleHead → List (Part (ValueBounds ℕ))
key_of asked = if is_ip asked.proto then [] else (if is_any asked.dports then asked.sports else asked.dports)

-- the rule is in the index of a side
unfoldable pub belongs_in : PacketSide → RuleHead → Bool
belongs_in side.Destination asked = is_ip asked.proto || (asked.both || (not (is_any asked.dports) || is_any asked.sports))
belongs_in side.Source asked = not (is_ip asked.proto) && (if is_any asked.dports then not (is_any asked.sports) else asked.both)

-- a rule is asked for at the port of a side
abbrev pub is_asked : PacketSide → ℕ → Option RuleHead → Bool
is_asked of port None = false
is_asked of port (Some asked) = belongs_in of asked && has_port (key_of asked) port

-- the rule at a place has no pattern, may fit the kind, and is asked for at the port of a side
abbrev pub is_sought : List RuleHead → List (List ℕ) → Transport → PacketSide → ℕ → ℕ → Bool
is_sought rules patterns kind of port place = is_plain rules patterns kind place && is_asked of port (slice_get rules place)

-- the rule, if there is one, is in the index of a side
abbrev pub belongs_some : PacketSide → Option RuleHead → Bool
belongs_some of None = false
belongs_some of (Some asked) = belongs_in of asked

-- the rule at a place has no pattern, may fit the kind, and is in the index of a side
abbrev pub belongs_at : List RuleHead → List (List ℕ) → Transport → PacketSide → ℕ → Bool
belongs_at rules patterns kind of place = is_plain rules patterns kind place && belongs_some of (slice_get rules place)

-- the blocks are those at which the rule at a place is sought
pub record AreSoughtAt (rules : List RuleHead) (patterns : List (List ℕ)) (kind : Transport) (of : PacketSide) (place : ℕ)
    (blocks : List ℕ) : Type 0 where
  pub within : All (λ block. (0 < block) × (block < 131072)) blocks
  pub exact : (port : ℕ) → port < 65536 → list_any (lies_in 16 0 port) blocks ≡ is_sought rules patterns kind of port place

-- the rules below a place that are asked for at a port have entries at its blocks, and no others
pub record AreFiled (rules : List RuleHead) (patterns : List (List ℕ)) (kind : Transport) (of : PacketSide)
    (entries : List IndexEntry)
    (count : ℕ) : Type 0 where
  pub blocks : AreBlocks entries
  pub filed : (port : ℕ) → port < 65536 → (place : ℕ)
      → is_filed (lies_in 16 0 port) entries place ≡ (nat_lt place count && is_sought rules patterns kind of port place)

-- the index of a side has the rules that are sought at its ports, and no others
pub record IsSide (rules : List RuleHead) (patterns : List (List ℕ)) (kind : Transport) (of : PacketSide)
    (index : PortIndex) : Type 0 where
  pub chained : IsChained index
  pub filed : (port : ℕ) → port < 65536 → (place : ℕ)
      → is_filed (lies_in 16 0 port) index.entries.items place ≡ is_sought rules patterns kind of port place

-- the index of each side has the rules that are sought at its ports
pub record AreSides (rules : List RuleHead) (patterns : List (List ℕ)) (kind : Transport) (sides : Sides) : Type 0 where
  pub source : IsSide rules patterns kind side.Source sides.source
  pub destination : IsSide rules patterns kind side.Destination sides.destination

-- a rule without a pattern is asked for by an item
abbrev pub is_due : Body → Option RuleHead → Bool
is_due (body.Tcp head) asked = is_asked side.Source head.sport asked || is_asked side.Destination head.dport asked
is_due (body.Stream sport dport) asked = is_asked side.Source sport asked || is_asked side.Destination dport asked
is_due (body.Udp sport dport) asked = is_asked side.Source sport asked || is_asked side.Destination dport asked
is_due _ asked = true

-- the places of the sought rules of two ports were added
pub record AddSought (sides : Sides) (sport dport : ℕ) (old new : List ℕ) : Type 0 where
  pub added : (rules : List RuleHead) (patterns : List (List ℕ)) (kind : Transport) → AreSides rules patterns kind sides
      → (place : ℕ)
      → has new place ≡ (has old place || (is_sought rules patterns kind side.Source sport place
      || is_sought rules patterns kind side.Destination dport place))
