-- Which rules are candidates for an item: those that are worth being tried on it.
--
-- A rule is a candidate where the protocol and the ports of its header fit (Snort Users Manual 2.9,
-- section 3.2; addresses aren't asked) and its fast pattern occurs in the item's payload, ASCII letters in
-- either case, or it has none. The definition looks for each pattern in the whole payload.
-- To try it on: `alert tcp any any -> any 80 (content:"cab"; ..)` is a candidate for a TCP packet to port
-- 80 with the payload `xCaBx`; it isn't for one from port 80, unless its direction is `<>`.
use Rattle.std.specs.Prelude.{◌≡◌, ℕ, ◌+◌, Bool, true, false, ◌&&◌, ◌||◌, List, [], ◌∷◌, Option, Some, None, slice_get, if◌then◌else◌}
use Rattle.edge_io.specs.Matching.{folded}
use Rattle.memchr.specs.Find.{OccursAt}
use Rattle.net_lists.specs.declared.part.ValueBounds.{ValueBounds}
use Rattle.net_lists.specs.declared.part.Part.{Part}
use Rattle.net_lists.specs.Membership.{has_port}
use Rattle.packet_decode.specs.declared.packet.Body.{Body}
use Rattle.packet_decode.specs.declared.packet.Body.TheVariants as body
use Rattle.rule_types.specs.declared.option.Content.{Content}
use Rattle.rule_types.specs.declared.option.Opt.{Opt}
use Rattle.rule_types.specs.declared.option.Opt.TheVariants as opt
use Rattle.rule_types.specs.declared.rule.Proto.{Proto}
use Rattle.rule_types.specs.declared.rule.Proto.TheVariants as proto
use Rattle.rule_types.specs.declared.rule.Rule.{Rule}
use Rattle.pattern_search.specs.Occurring.{occurs}
use Rattle.fast_pattern.specs.FastPattern.{pattern_of}

-- the source and destination ports are listed; under `<>` they may be exchanged
abbrev pub ports_fit : List (Part (ValueBounds ℕ)) → List (Part (ValueBounds ℕ)) → Bool → ℕ → ℕ → Bool
ports_fit sports dports both sport dport =
    (has_port sports sport && has_port dports dport)
    || (both && (has_port sports dport && has_port dports sport))

-- the protocol and the ports fit: a stretch of a stream is TCP, and a rule of ip fits every item
abbrev pub header_fits : Proto → List (Part (ValueBounds ℕ)) → List (Part (ValueBounds ℕ)) → Bool → Body → Bool
header_fits proto.Tcp sports dports both (body.Tcp head) = ports_fit sports dports both head.sport head.dport
header_fits proto.Tcp sports dports both (body.Stream sport dport) = ports_fit sports dports both sport dport
header_fits proto.Udp sports dports both (body.Udp sport dport) = ports_fit sports dports both sport dport
header_fits proto.Icmp sports dports both (body.Icmp kind code id seq) = true
header_fits proto.Ip sports dports both carried = true
header_fits _ sports dports both carried = false

unfoldable pub fits : Rule → Body → Bool
fits rule carried = header_fits rule.proto rule.sports rule.dports rule.both carried

-- the pattern occurs, or there is none
abbrev pub occurs_if_any : Option (List ℕ) → List ℕ → Bool
occurs_if_any None payload = true
occurs_if_any (Some pattern) payload = occurs pattern payload

-- the rule is worth being tried on an item that carries this
unfoldable pub is_candidate : Body → List ℕ → Rule → Bool
is_candidate carried payload rule = fits rule carried && occurs_if_any (pattern_of rule.opts) payload

-- the places at which the test holds, of a list whose first element has this place
abbrev pub places_from : {X : Type 0} → ℕ → (X → Bool) → List X → List ℕ
places_from place test [] = []
places_from place test (x ∷ xs) =
    if test x then place ∷ places_from (place + 1) test xs else places_from (place + 1) test xs

-- the candidates among the rules, by their places, in ascending order
unfoldable pub candidates : List Rule → Body → List ℕ → List ℕ
candidates rules carried payload = places_from 0 (is_candidate carried payload) rules

-- each content of the options that isn't negated occurs somewhere in the payload, with case kept or folded
pub record ContentsOccur (options : List Opt) (payload : List ℕ) : Type 0 where
  pub each : (place : ℕ) (content : Content) → slice_get options place ≡ Some (opt.Content content) → content.negated ≡ false
      → (nocase : Bool) × (start : ℕ) × OccursAt (folded nocase payload) (folded nocase content.bytes) start
