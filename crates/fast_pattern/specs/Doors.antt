-- Which ports rules ask for, in a table of bits. This is the project's own choice.
--
-- The table has a part for each side of TCP (0 and 1) and of UDP (2 and 3), with a bit for each port, and one bit
-- more for each part, and for ICMP (4) and all else (5), that lets all ports in. It may let in what fits no rule.
-- To try it on: with the one rule `tcp any any -> any 80` a packet of TCP to port 80 is let in; one to port 81
-- isn't, and no packet of UDP is.
use Rattle.std.specs.Prelude.{◌≡◌, ℕ, ◌+◌, ◌*◌, ◌<◌, Bool, true, ◌&&◌, ◌||◌, List, length, nat_lt}
use Rattle.net_lists.specs.declared.part.ValueBounds.{ValueBounds}
use Rattle.net_lists.specs.declared.part.Part.{Part}
use Rattle.packet_decode.specs.declared.packet.Body.{Body}
use Rattle.packet_decode.specs.declared.packet.Body.TheVariants as body
use Rattle.fast_pattern.specs.declared.header.RuleHead.{RuleHead}
use Rattle.net_lists.specs.Membership.{is_in, has_port}
use Rattle.fast_pattern.specs.Candidates.{header_fits}
use Rattle.pattern_search.specs.Slots.{slot_bit, table_words, KeepsSlots}

-- the slot of all ports of a part, and that of one port
abbrev pub all_slot : ℕ → ℕ
all_slot part = 262144 + part

abbrev pub port_slot : ℕ → ℕ → ℕ
port_slot part port = 65536 * part + port

-- all ports of a part are let in
abbrev pub is_all : List ℕ → ℕ → Bool
is_all table part = nat_lt 0 (slot_bit table (all_slot part))

-- the port of a part is let in
abbrev pub is_open : List ℕ → ℕ → ℕ → Bool
is_open table part port = is_all table part || nat_lt 0 (slot_bit table (port_slot part port))

-- an item that carries this is let in
unfoldable pub lets_in : List ℕ → Body → Bool
lets_in table (body.Tcp head) = is_open table 0 head.sport && is_open table 1 head.dport
lets_in table (body.Stream sport dport) = is_open table 0 sport && is_open table 1 dport
lets_in table (body.Udp sport dport) = is_open table 2 sport && is_open table 3 dport
lets_in table (body.Icmp kind code id seq) = is_all table 4
lets_in table _ = is_all table 5

-- all ports of a part were let in
pub record OpensAll (old : List ℕ) (part : ℕ) (new : List ℕ) : Type 0 where
  pub keeps : KeepsSlots old new
  pub own : is_all new part ≡ true

-- each port that a part of a list has is let in; of a negated one all are
abbrev pub OpensPart : ℕ → List ℕ → Part (ValueBounds ℕ) → Type 0
OpensPart part table ports = (port : ℕ) → (ports.negated || is_in port ports) ≡ true → is_open table part port ≡ true

-- each port that a list has is let in
abbrev pub Opens : List (Part (ValueBounds ℕ)) → ℕ → List ℕ → Type 0
Opens ports part table = (port : ℕ) → has_port ports port ≡ true → is_open table part port ≡ true

-- each item that a rule's header fits is let in
abbrev pub LetsIn : RuleHead → List ℕ → Type 0
LetsIn asked table =
    (carried : Body) → header_fits asked.proto asked.sports asked.dports asked.both carried ≡ true → lets_in table carried ≡ true
