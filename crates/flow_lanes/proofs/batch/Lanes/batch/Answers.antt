-- What `answer_batch` says of the workers' lanes is what `batch` promises of `Lanes`, whose view has these lanes; what is
-- asked of the jobs is known, since no batch failed before.
use Rattle.std.proofs.Common.{◌≡◌, false, Some, length, ap, sym, ◌∙◌, arith, rules}
use Rattle.std.specs.Prelude.{fold}
use Rattle.std.proofs.lemmas.List.{with_items_is}
use Rattle.flow_lanes.specs.declared.job.Job.{Job}
use Rattle.flow_lanes.specs.LanesAfter.{LanesState}
use Rattle.flow_lanes.specs.Batching.{lanes_of}
use Rattle.flow_lanes.proofs.Jobs.AreParts.{have_learnt, sound_among}
use Rattle.flow_lanes.proofs.batch.Lanes.batch.Goals as goal

pub answer_batch-requires-clause-ascend : goal.answer_batch-requires-clause-ascend
answer_batch-requires-clause-ascend g c κs within =
    let here : c.self.inside.failed ≡ false = search rules in
    (c.requires.next (ap (λ (lanes : LanesState). lanes.failed) (sym c.self.view_is) ∙ here)).ascend

pub answer_batch-requires-clause-sound : goal.answer_batch-requires-clause-sound
answer_batch-requires-clause-sound g c κs within =
    let here : c.self.inside.failed ≡ false = search rules in
    sound_among (length c.args.stream.now.engines) c.deref_mut.result.now c.args.self.now c.args.jobs.now
    (ap (λ (lanes : LanesState). lanes.lanes) (sym c.self.view_is) ∙ ap lanes_of (sym c.deref_mut.ensures.value))
    (c.requires.sound (ap (λ (lanes : LanesState). lanes.failed) (sym c.self.view_is) ∙ here))

pub returns-in-Ok-clause-answers : goal.returns-in-Ok-clause-answers
returns-in-Ok-clause-answers g c =
    c.in-Ok.ensures.answers _ _ (ap (λ (lanes : LanesState). lanes.lanes) (sym c.self.view_is) ∙ ap lanes_of (sym c.deref_mut.ensures.value))
    (ap lanes_of (with_items_is c.self.inside.workers c.answer_batch.new.workers (omega arith)))

pub returns-in-Ok-clause-learns : goal.returns-in-Ok-clause-learns
returns-in-Ok-clause-learns g c =
    have_learnt _ _ c.args.jobs.now _ _ c.in-Ok.ensures.learns
    (ap (λ (lanes : LanesState). lanes.lanes) (sym c.self.view_is) ∙ ap lanes_of (sym c.deref_mut.ensures.value))
    (ap lanes_of (with_items_is c.self.inside.workers c.answer_batch.new.workers (omega arith)))
    (c.greatest_number-self-inside.ensures ∙ ap (λ (lanes : LanesState). fold (λ most (job : Job). Some job.number) lanes.greatest c.args.jobs.now) c.self.view_is)
