-- What is kept of a flow after one more of its packets.
use Rattle.std.proofs.Common.{◌≡◌, ℕ, ◌+◌, ◌-◌, ◌*◌, ◌^◌, ◌<◌, ◌≤◌, Bool, true, false, cond, Option, Some, None, refl, sym, ap, subst, ◌∙◌, arith}
use Rattle.stream5_sessions.specs.declared.key.End.{End}
use Rattle.stream5_sessions.specs.declared.key.Key.{Key}
use Rattle.stream5_sessions.specs.Keys.{is_end_before, key_of}
use Rattle.flow_lanes.specs.Kept.{IsFound, IsKeptBy}
use Rattle.flow_lanes.specs.Sessions.{Packet, FlowSession, is_tcp, receiver, sender}
use Rattle.flow_lanes.specs.Sound.{FlowEnds, FlowFacts, IsSoundPacket, ends_of}
use Rattle.flow_lanes.proofs.Sessions.Reaches.{IsWithin-weaker}

key_of-tcp : (tcp : Bool) (a b : End) → (key_of tcp a b).tcp ≡ tcp
unfolding key_of
key_of-tcp tcp a b = either (is_end_before b a)
  where
    either : (before : Bool) → (cond {A = Key} before (record { tcp = tcp; low = b; high = a }) (record { tcp = tcp; low = a; high = b })).tcp ≡ tcp
    either true = refl
    either false = refl

-- what reaches so far reaches further
pub IsFound-weaker : (tcp : Bool) (a b : ℕ) (found : Option FlowSession) → a ≤ b → IsFound tcp a found → IsFound tcp b found
IsFound-weaker tcp a b found more h = record { same = h.same; within = IsWithin-weaker found a b more h.within }

pub IsFound-more : (tcp : Bool) (places : ℕ) (found : Option FlowSession) → IsFound tcp places found → IsFound tcp (places + 2 ^ 31) found
IsFound-more tcp places found h = IsFound-weaker tcp places (places + 2 ^ 31) found (omega arith) h

-- the key of a flow has the protocol of each of its packets
pub ends-tcp : (p : Packet) (ends : FlowEnds) → ends ≡ ends_of p → ends.key.tcp ≡ is_tcp p.head.body
ends-tcp p ends same = ap (λ (e : FlowEnds). e.key.tcp) same ∙ key_of-tcp (is_tcp p.head.body) (sender p) (receiver p)

-- the session that a sound packet finds is of its protocol, and has come less far than a session may
pub found-sound : (p : Packet) (facts : FlowFacts) (found : Option FlowSession)
    → IsKeptBy facts found
    → facts.ends ≡ ends_of p
    → facts.packets < 2 ^ 32
    → IsFound (is_tcp p.head.body) (2 ^ 63 - 2 ^ 31) found
found-sound p facts found kept same few =
    subst (λ (tcp : Bool). IsFound tcp (2 ^ 63 - 2 ^ 31) found)
    (ends-tcp p facts.ends same)
    (IsFound-weaker facts.ends.key.tcp (facts.packets * 2 ^ 31) (2 ^ 63 - 2 ^ 31) found (omega arith) kept.kept)

-- what is kept after the packet
pub kept-more : (p : Packet) (facts : FlowFacts) (found after : Option FlowSession) → IsKeptBy facts found → facts.ends ≡ ends_of p → facts.packets < 2 ^ 32
    → ((places : ℕ) → IsFound (is_tcp p.head.body) places found → IsFound (is_tcp p.head.body) (places + 2 ^ 31) after)
    → IsKeptBy (record { ends = facts.ends; packets = facts.packets + 1 }) after
kept-more p facts found after kept same few grows = record {
  few = omega arith;
  kept =
      subst (λ (tcp : Bool). IsFound tcp ((facts.packets + 1) * 2 ^ 31) after) (sym (ends-tcp p facts.ends same))
      (IsFound-weaker (is_tcp p.head.body) (facts.packets * 2 ^ 31 + 2 ^ 31) ((facts.packets + 1) * 2 ^ 31) after (omega arith)
      (grows (facts.packets * 2 ^ 31) (subst (λ (tcp : Bool). IsFound tcp (facts.packets * 2 ^ 31) found) (ends-tcp p facts.ends same) kept.kept)));
}

-- a flow whose session comes no further is kept as before
pub kept-still : (facts : FlowFacts) (found after : Option FlowSession) → IsKeptBy facts found
    → ((tcp : Bool) (places : ℕ) → IsFound tcp places found → IsFound tcp places after) → IsKeptBy facts after
kept-still facts found after kept keeps = record { few = kept.few; kept = keeps facts.ends.key.tcp (facts.packets * 2 ^ 31) kept.kept }

-- a flow before its first packet
pub sound-first : (engines : ℕ) (p : Packet) (facts : FlowFacts) → facts ≡ record { ends = ends_of p; packets = 0 } → IsSoundPacket engines None p → IsSoundPacket engines (Some facts) p
sound-first engines p facts is sound =
    subst (λ (f : FlowFacts). IsSoundPacket engines (Some f) p) (sym is)
    (record { protocol = sound.protocol; same_ends = refl; few = omega arith; size = sound.size; to_dst = sound.to_dst; to_src = sound.to_src })
