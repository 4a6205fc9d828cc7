-- It is decided whether a rule matches an item, so a test says which rules match.
use Rattle.std.proofs.Common.{◌≡◌, ℕ, Bool, true, false, List, length, Option, Some, None, refl, IsTrue}
use Rattle.std.proofs.lemmas.Bool.{false≢true}
use Rattle.edge_io.specs.declared.address.Addr.{Addr}
use Rattle.edge_io.specs.declared.address.Addr.TheVariants as addr
use Rattle.net_lists.specs.declared.part.AddrBounds.{AddrBounds}
use Rattle.net_lists.specs.declared.part.AddrBounds.TheVariants as bounds
use Rattle.net_lists.specs.declared.part.ValueBounds.{ValueBounds}
use Rattle.net_lists.specs.declared.part.Part.{Part}
use Rattle.net_lists.specs.Membership.{IsListed, IsNegated, IsPositive, Has, HasAddress}
use Rattle.packet_decode.specs.declared.item.ItemHead.{ItemHead}
use Rattle.rule_types.specs.declared.rule.Proto.{Proto}
use Rattle.rule_types.specs.declared.rule.Proto.TheVariants as proto
use Rattle.rule_types.specs.declared.rule.Rule.{Rule}
use Rattle.header_eval.specs.Fields.{HasPort, HeaderHolds, IsEnd, IsWay, PortHolds, destination_port, field_holds, is_of, source_port}
use Rattle.option_eval.specs.Places.{Means}
use Rattle.rule_eval.specs.Hits.{Bits, Item, RuleMatches, Tells, Test, flowbit_holds}
use Rattle.rule_eval.proofs.Decided.{Decided, decided_yes, decided_no, decided_like, decided_both, decided_either, decided_not, decided_true, decided_false, decided_le, decided_all, decided_any}
use Rattle.rule_eval.proofs.PayloadMatches.{decided_payload}

decided_listed : {B : Type 0} (has : B → Type 0) → ((b : B) → Decided (has b)) → (parts : List (Part B)) → Decided (IsListed has parts)
decided_listed {B = B} has each parts =
    decided_both
    (decided_either
    (decided_any (λ part. IsPositive part × has part.bounds) (λ part. decided_both (decided_false part.negated) (each part.bounds)) parts)
    (decided_all IsNegated (λ part. decided_true part.negated) parts))
    (decided_all (λ part. IsNegated part → ¬ has part.bounds) (λ part. decided_lacks part) parts)
  where
    by_sign : (negated : Bool) (b : B) → Decided (negated ≡ true → ¬ has b)
    by_sign true b = decided_like (λ none is. none) (λ none. none refl) (decided_not (each b))
    by_sign false b = decided_yes (λ is h. false≢true is)

    decided_lacks : (part : Part B) → Decided (IsNegated part → ¬ has part.bounds)
    decided_lacks part = by_sign part.negated part.bounds

decided_has : (value : ℕ) (within : ValueBounds ℕ) → Decided (Has value within)
decided_has value within = decided_both (decided_le within.low value) (decided_le value within.high)

decided_address : (a : Addr) (b : AddrBounds) → Decided (HasAddress a b)
decided_address (addr.V4 value) (bounds.V4 within) = decided_has value within
decided_address (addr.V4 value) (bounds.V6 within) = decided_no (λ h. h)
decided_address (addr.V6 value) (bounds.V4 within) = decided_no (λ h. h)
decided_address (addr.V6 value) (bounds.V6 within) = decided_has value within

decided_port : (ports : List (Part (ValueBounds ℕ))) (port : Option ℕ) → Decided (HasPort ports port)
decided_port ports None = decided_no (λ h. h)
decided_port ports (Some port) = decided_listed (Has port) (decided_has port) ports

decided_ports : (protocol : Proto) (ports : List (Part (ValueBounds ℕ))) (port : Option ℕ) → Decided (PortHolds protocol ports port)
decided_ports proto.Tcp ports port = decided_port ports port
decided_ports proto.Udp ports port = decided_port ports port
decided_ports proto.Icmp ports port = decided_yes tt
decided_ports proto.Ip ports port = decided_yes tt

decided_end : (protocol : Proto) (addrs : List (Part AddrBounds)) (ports : List (Part (ValueBounds ℕ))) (a : Addr) (port : Option ℕ)
    → Decided (IsEnd protocol addrs ports (record { addr = a; port = port }))
decided_end protocol addrs ports a port = decided_both (decided_listed (HasAddress a) (decided_address a) addrs) (decided_ports protocol ports port)

decided_way : (rule : Rule) (a : Addr) (p : Option ℕ) (b : Addr) (q : Option ℕ) → Decided (IsWay rule (record { addr = a; port = p }) (record { addr = b; port = q }))
unfolding IsWay
decided_way rule a p b q = decided_both (decided_end rule.proto rule.src rule.sports a p) (decided_end rule.proto rule.dst rule.dports b q)

decided_header : (rule : Rule) (head : ItemHead) → Decided (HeaderHolds rule head)
unfolding HeaderHolds
decided_header rule head =
    decided_both (decided_true (is_of rule.proto head.body))
    (decided_either (decided_way rule head.ip.src (source_port head.body) head.ip.dst (destination_port head.body))
    (decided_both (decided_true rule.both) (decided_way rule head.ip.dst (destination_port head.body) head.ip.src (source_port head.body))))

-- a rule matches an item, or it doesn't
pub decided_rule : (means : Means) (rule : Rule) (item : Item) (bits : Bits) → Decided (RuleMatches means rule item bits)
decided_rule means rule item bits =
    decided_like
    (λ h. record { header = h.0.0; fields = h.0.1; flowbits_hold = h.1.0; payload = h.1.1 })
    (λ h. ((h.header, h.fields), (h.flowbits_hold, h.payload)))
    (decided_both
    (decided_both (decided_header rule item.head)
    (decided_all (λ option. IsTrue (field_holds option item.head (length item.payload)))
    (λ option. decided_true (field_holds option item.head (length item.payload)))
    rule.opts))
    (decided_both
    (decided_all (λ option. IsTrue (flowbit_holds bits option)) (λ option. decided_true (flowbit_holds bits option)) rule.opts)
    (decided_payload means rule item.payload)))

-- the test of each rule
pub test_of : Means → Test
test_of means rule item bits = (decided_rule means rule item bits).0

pub test_of-tells : (means : Means) → Tells means (test_of means)
unfolding test_of
test_of-tells means rule item bits = (decided_rule means rule item bits).1
