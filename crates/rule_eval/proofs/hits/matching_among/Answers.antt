-- The candidates that match, each tried with the bits that those before it left, are all rules that match, since no other
-- rule does (`picked-hits`); the bits in the end are the ones that these leave.
use Rattle.std.proofs.Common.{ℕ, ◌<◌, List, length, sym, ap, subst, ◌∙◌}
use Rattle.std.specs.Prelude.{All}
use Rattle.rule_eval.specs.Hits.{AreHits}
use Rattle.rule_eval.specs.Picking.{bits_after_all, picked}
use Rattle.rule_eval.proofs.Picked.{candidates-below, picked-hits}
use Rattle.rule_eval.proofs.Tells.{test_of, test_of-tells}
use Rattle.rule_eval.proofs.hits.matching_among.Goals as goal

pub pick_all-requires-clause-within : goal.pick_all-requires-clause-within
pick_all-requires-clause-within g c κs within =
    subst (λ (xs : List ℕ). All (λ place. place < length c.args.set.now.rules) xs) (sym c.requires.candidates) (candidates-below c.args.set.now.rules c.args.head.now.body c.args.payload.now)

pub returns-clause-hits : goal.returns-clause-hits
returns-clause-hits g c = λ means find.
    let all = c.in_ok-found.ensures.picks means (test_of means) find (test_of-tells means) in
    subst (λ (xs : List ℕ). AreHits means c.args.set.now.rules (record { head = c.args.head.now; payload = c.args.payload.now })
    c.args.bits.now xs)
    (sym (c.from_vec.ensures ∙ all.found ∙
    ap (λ (xs : List ℕ). picked (test_of means) c.args.set.now.rules
    (record { head = c.args.head.now; payload = c.args.payload.now })
    c.args.bits.now xs) c.requires.candidates))
    (picked-hits means (test_of means) (test_of-tells means) c.args.set.now.rules
    (record { head = c.args.head.now; payload = c.args.payload.now })
    c.args.bits.now)

pub returns-clause-bits : goal.returns-clause-bits
returns-clause-bits g c = λ means find.
    let all = c.in_ok-found.ensures.picks means (test_of means) find (test_of-tells means) in
    all.bits ∙ ap (λ (xs : List ℕ). bits_after_all c.args.set.now.rules c.args.bits.now xs) (sym c.from_vec.ensures)
