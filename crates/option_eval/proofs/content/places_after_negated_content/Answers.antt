-- A negated content that counts from a place is a test: it leads to
-- that place alone, just if its bytes are out of reach from there.
use Rattle.std.proofs.Common.{◌≡◌, ◌||◌, Bool, true, false, refl}
use Rattle.std.proofs.lemmas.Bool.{false≢true}
use Rattle.std.proofs.lemmas.Result.{IfOk-weaker}
use Rattle.rule_types.specs.declared.option.Opt.TheVariants as opt
use Rattle.option_eval.specs.Places.{is_only}
use Rattle.option_eval.proofs.Sets.Contents.{absent_gathers}
use Rattle.option_eval.proofs.Walks.Staying.{test_stays}
use Rattle.option_eval.proofs.content.places_after_negated_content.Goals as goal

or_true : (a b : Bool) → a ≡ true → (a || b) ≡ true
or_true true b is = refl
or_true false b is = absurd (false≢true is)

pub returns-clause-found : goal.returns-clause-found
returns-clause-found g c = λ means every.
    let content = c.args.content.now in
    let payload = c.args.at.now.payload.now in
    let values = c.args.at.now.values.now in
    let test = or_true content.negated (is_only content.fast) c.requires.negated in
    IfOk-weaker c.places_without.result _ _
    (λ next found. absent_gathers every means payload values content c.requires.negated c.requires.relative c.reach.result c.reach.ensures.from c.reach.ensures.room c.args.at.now.places.now next.items
    (test_stays means payload values (opt.Content content) test) c.needle.result.nocase c.needle.result.bytes.now c.needle.ensures.nocase c.needle.ensures.bytes found)
    c.places_without.ensures.found
