-- A rule that matches an item is a candidate for it: so no other rule needs to be tried.
use Rattle.std.proofs.Common.{◌≡◌, ℕ, zero, suc, ◌⊎◌, ⊎_elim, inl, inr, Bool, true, false, ◌&&◌, List, [], ◌∷◌, Some, refl, subst, slice_get}
use Rattle.std.proofs.lemmas.Bool.{false≢true, MatchBool-at_false, and_from, or_left, or_right}
use Rattle.memchr.specs.Find.{OccursAt}
use Rattle.edge_io.specs.Matching.{folded}
use Rattle.net_lists.specs.declared.part.ValueBounds.{ValueBounds}
use Rattle.net_lists.specs.declared.part.Part.{Part}
use Rattle.net_lists.specs.Membership.{IsListed, Has, has_port}
use Rattle.packet_decode.specs.declared.item.ItemHead.{ItemHead}
use Rattle.packet_decode.specs.declared.packet.Body.{Body}
use Rattle.packet_decode.specs.declared.packet.Body.TheVariants as body
use Rattle.rule_types.specs.declared.option.Content.{Content}
use Rattle.rule_types.specs.declared.option.Opt.{Opt}
use Rattle.rule_types.specs.declared.option.Opt.TheVariants as opt
use Rattle.rule_types.specs.declared.rule.Proto.{Proto}
use Rattle.rule_types.specs.declared.rule.Proto.TheVariants as proto
use Rattle.rule_types.specs.declared.rule.Rule.{Rule}
use Rattle.header_eval.specs.Fields.{HeaderHolds, IsWay, PortHolds, destination_port, is_of, source_port}
use Rattle.option_eval.specs.Numbers.{Point}
use Rattle.option_eval.specs.Places.{IsWay as IsWayThrough, Leads, Means, sought, start}
use Rattle.fast_pattern.specs.Candidates.{fits, header_fits, is_candidate, occurs_if_any, ports_fit}
use Rattle.fast_pattern.specs.FastPattern.{pattern_of}
use Rattle.fast_pattern.proofs.Candidates.Needing.{needs-pattern}
use Rattle.net_lists.proofs.Membership.Ports.{has_port-from}
use Rattle.rule_eval.specs.Hits.{Bits, Item, RuleMatches}

-- the ports of a way, and of the way back under `<>`
ports_fit-from : (sports dports : List (Part (ValueBounds ℕ))) (both : Bool) (sport dport : ℕ)
    → (IsListed (Has sport) sports × IsListed (Has dport) dports) ⊎ ((both ≡ true) × (IsListed (Has dport) sports × IsListed (Has sport) dports))
    → ports_fit sports dports both sport dport ≡ true
ports_fit-from sports dports both sport dport (inl h) =
    or_left (has_port sports sport && has_port dports dport) (both && (has_port sports dport && has_port dports sport))
    (and_from (has_port sports sport) (has_port dports dport) (has_port-from sport sports h.0) (has_port-from dport dports h.1))
ports_fit-from sports dports both sport dport (inr h) =
    or_right (has_port sports sport && has_port dports dport) (both && (has_port sports dport && has_port dports sport))
    (and_from both (has_port sports dport && has_port dports sport) h.0
    (and_from (has_port sports dport) (has_port dports sport) (has_port-from dport sports h.1.0) (has_port-from sport dports h.1.1)))

abbrev PortsHold : Proto → List (Part (ValueBounds ℕ)) → List (Part (ValueBounds ℕ)) → Bool → Body → Type 0
PortsHold protocol sports dports both carried =
    (PortHolds protocol sports (source_port carried) × PortHolds protocol dports (destination_port carried))
    ⊎ ((both ≡ true) × (PortHolds protocol sports (destination_port carried) × PortHolds protocol dports (source_port carried)))

header_fits-from : (protocol : Proto) (sports dports : List (Part (ValueBounds ℕ))) (both : Bool) (carried : Body)
    → is_of protocol carried ≡ true → PortsHold protocol sports dports both carried → header_fits protocol sports dports both carried ≡ true
header_fits-from proto.Tcp sports dports both (body.Tcp head) is h = ports_fit-from sports dports both head.sport head.dport h
header_fits-from proto.Tcp sports dports both (body.Stream sport dport) is h = ports_fit-from sports dports both sport dport h
header_fits-from proto.Tcp sports dports both _ is h = absurd (false≢true is)
header_fits-from proto.Udp sports dports both (body.Udp sport dport) is h = ports_fit-from sports dports both sport dport h
header_fits-from proto.Udp sports dports both _ is h = absurd (false≢true is)
header_fits-from proto.Icmp sports dports both (body.Icmp kind code id seq) is h = refl
header_fits-from proto.Icmp sports dports both _ is h = absurd (false≢true is)
header_fits-from proto.Ip sports dports both carried is h = refl

fits-from : (rule : Rule) (head : ItemHead) → HeaderHolds rule head → fits rule head.body ≡ true
unfolding HeaderHolds IsWay fits
fits-from rule head h =
    header_fits-from rule.proto rule.sports rule.dports rule.both head.body h.0
    (⊎_elim (λ way. inl (way.0.1, way.1.1)) (λ back. inr (back.0, (back.1.0.1, back.1.1.1))) h.1)

-- a content that isn't negated occurs in the payload, where a way leads through the options
content_occurs : (means : Means) (payload : List ℕ) (content : Content) (before after : Point) → content.negated ≡ false → Leads means payload (opt.Content content) before after
    → (nocase : Bool) × (start : ℕ) × OccursAt (folded nocase payload) (folded nocase content.bytes) start
unfolding Leads
content_occurs means payload content before after kept led =
    let found = MatchBool-at_false _ _ kept led in
    ((sought content before).nocase, found.0, found.1.occurs)

each_occurs : (means : Means) (payload : List ℕ) (options : List Opt) (before : Point) (way : List Point) → IsWayThrough means payload options before way
    → (place : ℕ) (content : Content) → slice_get options place ≡ Some (opt.Content content) → content.negated ≡ false
    → (nocase : Bool) × (start : ℕ) × OccursAt (folded nocase payload) (folded nocase content.bytes) start
each_occurs means payload [] before way h place content is kept = absurd (cc)
each_occurs means payload (option ∷ options) before [] h place content is kept = absurd h
each_occurs means payload (option ∷ options) before (after ∷ later) h zero content is kept =
    let here : option ≡ opt.Content content = cc in
    content_occurs means payload content before after kept (subst (λ (o : Opt). Leads means payload o before after) here h.0)
each_occurs means payload (option ∷ options) before (after ∷ later) h (suc place) content is kept = each_occurs means payload options after later h.1 place content is kept

pub matching-candidate : (means : Means) (rule : Rule) (item : Item) (bits : Bits) → RuleMatches means rule item bits → is_candidate item.head.body item.payload rule ≡ true
unfolding is_candidate
matching-candidate means rule item bits h =
    and_from (fits rule item.head.body) (occurs_if_any (pattern_of rule.opts) item.payload)
    (fits-from rule item.head h.header)
    (needs-pattern rule.opts item.payload (record { each = each_occurs means item.payload rule.opts start h.payload.0 h.payload.1 }))
