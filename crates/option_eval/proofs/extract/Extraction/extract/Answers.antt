-- An extraction that isn't relative leads alike from each place, so asking the first
-- alone leaves the states of all; places that rise are no more than the payload has.
use Rattle.std.proofs.Common.{◌+◌, arith, length}
use Rattle.std.proofs.lemmas.Result.{IfOk-weaker}
use Rattle.option_eval.proofs.Sets.Asking.{length-asked}
use Rattle.option_eval.proofs.Sets.Rising.{rising_length}
use Rattle.option_eval.proofs.Extractions.Extracting.{leaves_asked}
use Rattle.option_eval.proofs.extract.Extraction.extract.Goals as goal

pub returns-clause-right : goal.returns-clause-right
returns-clause-right g c = λ means later reads.
    let it = c.args.self.now in
    IfOk-weaker c.extract_each.result _ _
    (λ done left. leaves_asked means c.args.at.now.payload.now it.fetch it.name it.times it.align later c.args.at.now.values.now c.args.at.now.places.now
    c.asked_of.result.now c.args.states.now c.extract_each.new.states
    c.args.at.now.some c.asked_of.ensures left)
    (c.extract_each.ensures.right means later reads)

pub returns-clause-bounded : goal.returns-clause-bounded
returns-clause-bounded g c =
    omega (
      arith,
      c.extract_each.ensures.bounded,
      length-asked c.args.self.now.fetch.relative c.args.at.now.places.now c.asked_of.result.now c.asked_of.ensures,
      rising_length c.args.at.now.places.now 0 (length c.args.at.now.payload.now + 1) c.args.at.now.rising,
    )
