-- From one batch to the next the detector is the one after the records that the reader gave; each full batch moves the
-- reader on, which gives `most_records` at most, so that the loop ends.
use Rattle.std.proofs.Common.{Ok, Err, refl, ap, ◌∙◌, arith}
use Rattle.std.proofs.lemmas.Result.{err_from_is_err_and}
use Rattle.edge_io.specs.Told.{Rose}
use Rattle.snort_engine.specs.Steps.Showing.{plan_of}
use Rattle.snort_engine.proofs.Prefixes.{read_not, read_on, read_rose}
use Rattle.snort_engine.proofs.Headline.Quiet.{caused_done, caused_since}
use Rattle.snort_engine.proofs.Showing.Shown.{under_way-start, comes_since}
use Rattle.snort_engine.proofs.show.show_batches.Goals as goal

pub batches-init : goal.batches-init
batches-init g c = record {
  going = λ matches test holds seen may. under_way-start (plan_of matches c.args.context.now.plan.now) _ _ _ _ c.requires.ready.readable.fresh refl holds;
  ready = c.requires.ready;
  shown = c.new-records.ensures.items;
  quiet = refl;
  quiet_alerts = refl;
  host = read_not g.H.Host c.args.host.now;
}

pub returns-in_err-show_next_batch-clause-comes : goal.returns-in_err-show_next_batch-clause-comes
returns-in_err-show_next_batch-clause-comes g c = λ matches test holds seen may.
    let p = err_from_is_err_and c.from_residual.result c.from_residual.ensures.1 in
    rw (p.1, p.2) (comes_since (plan_of matches c.args.context.now.plan.now) _ _ _ _ _ _ (Err c.in_err-show_next_batch.field-0.0)
    (λ (rose : Rose (g.H.Host.faults c.batches.host) (g.H.Host.faults c.show_next_batch.new.host)). read_rose
    g.H.Host c.args.host.now c.batches.host c.show_next_batch.new.host c.batches.invariant.host rose)
    (c.in_err-show_next_batch.ensures.goes_on matches test seen may _ _
    (c.batches.invariant.going matches test holds seen (c.in_err-show_next_batch.ensures.host.earlier seen may))))

pub returns-clause-comes : goal.returns-clause-comes
returns-clause-comes g c = λ matches test holds seen may.
    let over = rw c.if-branch.false at (c.in_ok-show_next_batch.ensures.goes_on matches test seen may) in
    comes_since (plan_of matches c.args.context.now.plan.now) _ _ _ _ _ _ (Ok tt)
    (λ (rose : Rose (g.H.Host.faults c.batches.host) (g.H.Host.faults c.show_next_batch.new.host)). read_rose
    g.H.Host c.args.host.now c.batches.host c.show_next_batch.new.host c.batches.invariant.host rose)
    (over _ _ (c.batches.invariant.going matches test holds seen (c.in_ok-show_next_batch.ensures.host.earlier seen may)))

pub batches-preserved : goal.batches-preserved
batches-preserved g c =
    record {
      going = λ matches test holds seen may.
          let on = rw c.if-branch.true at (c.in_ok-show_next_batch.ensures.goes_on matches test seen may) in
          on _ _ (c.batches.invariant.going matches test holds seen (c.in_ok-show_next_batch.ensures.host.earlier seen may));
      ready = (c.in_ok-show_next_batch.ensures.further (ap Ok c.if-branch.true)).ready;
      shown = c.in_ok-show_next_batch.ensures.shown;
      quiet = c.in_ok-show_next_batch.ensures.causes.quiet refl ∙ c.batches.invariant.quiet;
      quiet_alerts = c.in_ok-show_next_batch.ensures.causes.quiet_alerts refl ∙ c.batches.invariant.quiet_alerts;
      host = read_on g.H.Host _ _ _ c.batches.invariant.host c.in_ok-show_next_batch.ensures.host;
    }

pub batches-smaller : goal.batches-smaller
batches-smaller g c =
    let went = c.in_ok-show_next_batch.ensures.further (ap Ok c.if-branch.true) in
    let further = went.further in
    let within = went.ready.readable.within in
    omega (arith, further, within)

pub returns-in_err-show_next_batch-clause-causes : goal.returns-in_err-show_next_batch-clause-causes
returns-in_err-show_next_batch-clause-causes g c =
    let p = err_from_is_err_and c.from_residual.result c.from_residual.ensures.1 in
    rw (p.1, p.2) (caused_since _ _ _ _ _ _ c.in_err-show_next_batch.ensures.causes
    (λ (rose : Rose (g.H.Host.faults c.batches.host) (g.H.Host.faults c.show_next_batch.new.host)). read_rose
    g.H.Host c.args.host.now c.batches.host c.show_next_batch.new.host c.batches.invariant.host rose)
    c.batches.invariant.quiet c.batches.invariant.quiet_alerts)

pub returns-clause-causes : goal.returns-clause-causes
returns-clause-causes g c =
    caused_done _ _ _ (c.in_ok-show_next_batch.ensures.causes.quiet refl ∙ c.batches.invariant.quiet) (c.in_ok-show_next_batch.ensures.causes.quiet_alerts refl ∙ c.batches.invariant.quiet_alerts)
