-- A new detector is the one after no record, the batches take it on, and it is closed where they came to their end: the
-- steps of the capture's showing, one after another.
use Rattle.std.proofs.Common.{refl, arith}
use Rattle.std.proofs.lemmas.Result.{err_from_is_err_and}
use Rattle.alert_lines.proofs.Prefixes.{WritesPart-none}
use Rattle.snort_engine.specs.Steps.Stop.{outcome_status}
use Rattle.snort_engine.specs.Steps.Showing.{plan_of}
use Rattle.snort_engine.proofs.Headline.Quiet.{caused_closed}
use Rattle.snort_engine.proofs.Showing.Shown.{close-start, closed_show, closed_after}
use Rattle.snort_engine.proofs.show.show_opened.Goals as goal

pub show_batches-shown-requires-clause-ready : goal.show_batches-shown-requires-clause-ready
show_batches-shown-requires-clause-ready g c κs within = record {
  readable = c.requires.readable;
  known = c.in_ok-detector.ensures.known;
  after = omega (arith, c.in_ok-detector.ensures.none);
}

pub returns-in_err-detector-clause-shows : goal.returns-in_err-detector-clause-shows
returns-in_err-detector-clause-shows g c = λ matches test seen may.
    let p = err_from_is_err_and c.from_residual.result c.from_residual.ensures.1 in
    rw (p.1, p.2) (λ rest told. WritesPart-none _ _)

pub returns-in_err-detector-clause-close : goal.returns-in_err-detector-clause-close
returns-in_err-detector-clause-close g c = λ matches test seen may.
    let p = err_from_is_err_and c.from_residual.result c.from_residual.ensures.1 in
    rw (p.1, p.2) (close-start (plan_of matches c.args.context.now.plan.now) c.args.reader.now _ _ c.requires.readable.fresh)

pub returns-clause-shows : goal.returns-clause-shows
returns-clause-shows g c = λ matches test seen may.
    closed_show (plan_of matches c.args.context.now.plan.now) c.args.reader.now _ _ c.show_batches-shown.new.detector _ _ _ _ c.show_batches-shown.result c.close_shown.result
    ((c.show_batches-shown.ensures.comes matches test (c.in_ok-detector.ensures.holds matches) seen may).0) (c.close_shown.ensures.closes matches test)

pub returns-clause-close : goal.returns-clause-close
returns-clause-close g c = λ matches test seen may.
    closed_after (plan_of matches c.args.context.now.plan.now) c.args.reader.now _ _ c.show_batches-shown.new.detector _ _ _ _ _ c.show_batches-shown.result c.close_shown.result
    (c.show_batches-shown.ensures.comes matches test (c.in_ok-detector.ensures.holds matches) seen may) (c.close_shown.ensures.closes matches test)

pub returns-clause-causes : goal.returns-clause-causes
returns-clause-causes g c =
    caused_closed _ _ _ _ _ (outcome_status c.close_shown.result) c.show_batches-shown.ensures.causes c.close_shown.ensures.causes refl
