-- `match_batch` speaks of the workers' lanes, `search` of the view of `Lanes`: the view's lanes are those of the workers,
-- before the batch and after it.
use Rattle.std.proofs.Common.{◌≡◌, false, Some, length, ap, sym, ◌∙◌, arith, rules}
use Rattle.std.specs.Prelude.{fold}
use Rattle.std.proofs.lemmas.List.{with_items_is}
use Rattle.flow_lanes.specs.declared.job.Job.{Job}
use Rattle.flow_lanes.specs.LanesAfter.{LanesState}
use Rattle.flow_lanes.specs.Batching.{lanes_of}
use Rattle.flow_lanes.proofs.Jobs.AreParts.{have_learnt, sound_among}
use Rattle.flow_lanes.proofs.batch.Lanes.search.Goals as goal

pub match_batch-requires-clause-ascend : goal.match_batch-requires-clause-ascend
match_batch-requires-clause-ascend g c κs within =
    let here : c.self.inside.failed ≡ false = search rules in
    (c.requires.next (ap (λ (lanes : LanesState). lanes.failed) (sym c.self.view_is) ∙ here)).ascend

pub match_batch-requires-clause-sound : goal.match_batch-requires-clause-sound
match_batch-requires-clause-sound g c κs within =
    let here : c.self.inside.failed ≡ false = search rules in
    sound_among (length c.args.stream.now.engines) c.deref_mut.result.now c.args.self.now c.args.jobs.now
    (ap (λ (lanes : LanesState). lanes.lanes) (sym c.self.view_is) ∙ ap lanes_of (sym c.deref_mut.ensures.value))
    (c.requires.sound (ap (λ (lanes : LanesState). lanes.failed) (sym c.self.view_is) ∙ here))

pub returns-in-Ok-clause-finds : goal.returns-in-Ok-clause-finds
returns-in-Ok-clause-finds g c =
    c.in-Ok.ensures.finds _ _ (ap (λ (lanes : LanesState). lanes.lanes) (sym c.self.view_is) ∙ ap lanes_of (sym c.deref_mut.ensures.value))
    (ap lanes_of (with_items_is c.self.inside.workers c.match_batch.new.workers (omega arith)))

pub returns-in-Ok-clause-learns : goal.returns-in-Ok-clause-learns
returns-in-Ok-clause-learns g c =
    have_learnt _ _ c.args.jobs.now _ _ c.in-Ok.ensures.learns
    (ap (λ (lanes : LanesState). lanes.lanes) (sym c.self.view_is) ∙ ap lanes_of (sym c.deref_mut.ensures.value))
    (ap lanes_of (with_items_is c.self.inside.workers c.match_batch.new.workers (omega arith)))
    (c.greatest_number-self-inside.ensures ∙ ap (λ (lanes : LanesState). fold (λ most (job : Job). Some job.number) lanes.greatest c.args.jobs.now) c.self.view_is)
