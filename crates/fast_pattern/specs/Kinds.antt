-- Kinds of items, as far as a rule without ports asks, and the rules without a pattern that may fit them.
-- This is the project's own choice.
--
-- To try it on: a stretch of a stream is of the kind Tcp, and rules of tcp and of ip may fit it.
use Rattle.std.specs.Prelude.{ℕ, Bool, true, false, ◌&&◌, List, Option, Some, None, length, nat_lt, slice_get}
use Rattle.packet_decode.specs.declared.packet.Body.{Body}
use Rattle.packet_decode.specs.declared.packet.Body.TheVariants as body
use Rattle.rule_types.specs.declared.rule.Proto.{Proto}
use Rattle.rule_types.specs.declared.rule.Proto.TheVariants as proto
use Rattle.fast_pattern.specs.declared.header.RuleHead.{RuleHead}
use Rattle.fast_pattern.specs.declared.header.Transport.{Transport}
use Rattle.fast_pattern.specs.declared.header.Transport.TheVariants as kinds
use Rattle.pattern_search.specs.Words.{word_at}

-- the kind of what an item carries
abbrev pub kind_of : Body → Transport
kind_of (body.Tcp head) = kinds.Tcp
kind_of (body.Stream sport dport) = kinds.Tcp
kind_of (body.Udp sport dport) = kinds.Udp
kind_of (body.Icmp kind code id seq) = kinds.Icmp
kind_of _ = kinds.Other

-- rules of the protocol may fit the kind
abbrev pub is_for : Transport → Proto → Bool
is_for kind proto.Ip = true
is_for kinds.Tcp proto.Tcp = true
is_for kinds.Udp proto.Udp = true
is_for kinds.Icmp proto.Icmp = true
is_for _ _ = false

-- the header of the rule at a place may fit the kind
abbrev pub is_for_some : Transport → Option RuleHead → Bool
is_for_some kind None = false
is_for_some kind (Some asked) = is_for kind asked.proto

-- the rule at a place has no pattern, and may fit the kind
unfoldable pub is_plain : List RuleHead → List (List ℕ) → Transport → ℕ → Bool
is_plain rules patterns kind place = nat_lt (length (word_at patterns place)) 1 && is_for_some kind (slice_get rules place)
