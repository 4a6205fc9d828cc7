-- A rule whose header, fields and bits hold matches where its payload options lead through the payload.
use Rattle.std.proofs.Common.{◌≡◌, Bool, List, length, Result, Ok, Err, IfOk, IsTrue, ◌↔◌, subst}
use Rattle.std.specs.Prelude.{All}
use Rattle.edge_io.specs.declared.fault.NoMemory.{NoMemory}
use Rattle.rule_types.specs.declared.option.Opt.{Opt}
use Rattle.rule_types.specs.declared.rule.Rule.{Rule}
use Rattle.header_eval.specs.Fields.{HeaderHolds, field_holds}
use Rattle.option_eval.specs.Places.{Means, PayloadMatches}
use Rattle.rule_eval.specs.Hits.{Bits, Item, RuleMatches, flowbit_holds}

pub matches-then : (means : Means) (rule : Rule) (item : Item) (bits : Bits) (xs ys : List Opt) → HeaderHolds rule item.head → xs ≡ rule.opts → ys ≡ rule.opts
    → All (λ option. IsTrue (field_holds option item.head (length item.payload))) xs → All (λ option. IsTrue (flowbit_holds bits option)) ys
    → (r : Result Bool NoMemory) → IfOk r (λ matches. IsTrue matches ↔ PayloadMatches means rule item.payload) → IfOk r (λ matches. IsTrue matches ↔ RuleMatches means rule item bits)
matches-then means rule item bits xs ys header xs_are ys_are fields flowbits_hold (Ok matches) h = (
  λ yes. record {
    header = header;
    fields = subst (λ (os : List Opt). All (λ option. IsTrue (field_holds option item.head (length item.payload))) os) xs_are fields;
    flowbits_hold = subst (λ (os : List Opt). All (λ option. IsTrue (flowbit_holds bits option)) os) ys_are flowbits_hold;
    payload = h.0 yes;
  },
  λ matched. h.1 matched.payload,
)
matches-then means rule item bits xs ys header xs_are ys_are fields flowbits_hold (Err fault) h = tt
