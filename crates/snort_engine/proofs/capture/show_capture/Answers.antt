-- A plan's way goes by its source: a file's capture ends as `show_file` says, and one that is made as `show_made` says, in
-- which the host has no part.
use Rattle.std.proofs.Common.{refl, ap, ◌∙◌}
use Rattle.snort_engine.specs.declared.plan.CaptureSource.{CaptureSource}
use Rattle.snort_engine.specs.Steps.Sources.{way_from}
use Rattle.snort_engine.specs.Steps.Showing.{plan_of}
use Rattle.snort_engine.proofs.Headline.Quiet.{caused_since}
use Rattle.snort_engine.proofs.capture.show_capture.Goals as goal

pub returns-in-File-clause-ends : goal.returns-in-File-clause-ends
returns-in-File-clause-ends g c = λ matches test files course agree goes.
    let way = goes ∙ ap (λ (s : CaptureSource). way_from s (plan_of matches c.args.context.now.plan.now)) c.in-File.is in
    rw c.in-File.is (c.show_file.ensures.ends matches test files course agree way)

pub returns-in-Made-clause-ends : goal.returns-in-Made-clause-ends
returns-in-Made-clause-ends g c = λ matches test files course agree goes.
    let way = goes ∙ ap (λ (s : CaptureSource). way_from s (plan_of matches c.args.context.now.plan.now)) c.in-Made.is in
    c.show_made.ensures.ends matches test files course
    (record {
      left = g.H.Host.left_of c.args.host.now files;
      opens = g.H.Host.opens c.args.host.now;
      host_faults = g.H.Host.faults c.args.host.now;
      alerts = g.A.Sink.written c.args.alerts.now;
    })
    refl way

pub returns-in-File-clause-causes : goal.returns-in-File-clause-causes
returns-in-File-clause-causes g c = rw c.in-File.is c.show_file.ensures.causes

pub returns-in-Made-clause-causes : goal.returns-in-Made-clause-causes
returns-in-Made-clause-causes g c = caused_since _ _ _ _ _ _ (c.show_made.ensures.causes (g.H.Host.faults c.args.host.now)) (λ never. absurd never) refl refl
