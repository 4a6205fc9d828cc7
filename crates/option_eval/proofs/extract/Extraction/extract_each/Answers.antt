-- The places before `rest` have added their states, and one place more adds its own: at the end all places have.
use Rattle.std.proofs.Common.{◌∷◌}
use Rattle.option_eval.specs.Extractions.{extract_option}
use Rattle.option_eval.proofs.Extractions.Extracting.{asked_none, asked_next, asked_all}
use Rattle.option_eval.proofs.extract.Extraction.extract_each.Goals as goal

pub loop-rest-init : goal.loop-rest-init
loop-rest-init g c = record {
  asked = λ means later reads. asked_none means c.args.payload.now (extract_option c.args.self.now ∷ later) c.args.values.now c.args.places.now c.args.states.now;
  within = λ h. h;
}

pub loop-rest-preserved : goal.loop-rest-preserved
loop-rest-preserved g c =
    let old = c.loop-rest.invariant in
    let rest = c.loop-rest.rest.now in
    let some = c.in-len1-up.len_at_least in
    record {
      asked = λ means later reads.
          asked_next means c.args.payload.now (extract_option c.args.self.now ∷ later) c.args.values.now c.args.places.now rest
          c.args.states.now c.loop-rest.states c.extract_at.new.states some
          (old.asked means later reads) (c.in_ok-extract_at.ensures.right means later reads);
      within = λ h. c.in_ok-extract_at.ensures.inside (old.within h);
    }

pub returns-clause-right : goal.returns-clause-right
returns-clause-right g c = λ means later reads.
    asked_all means c.args.payload.now (extract_option c.args.self.now ∷ later) c.args.values.now c.args.places.now
    c.loop-rest.rest.now c.args.states.now c.loop-rest.states c.in_default.len_below
    (c.loop-rest.invariant.asked means later reads)
