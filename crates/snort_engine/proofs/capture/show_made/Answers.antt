-- A capture that is made has a savefile's header, and what follows is read from a host that never fails: so what
-- `show_opened` shows of it is what the course makes (`made_ends`).
use Rattle.std.proofs.Common.{ℕ, List, Some, ◌≤◌, length, drop, refl, ap, sym, ◌∙◌, subst, arith}
use Rattle.std.proofs.lemmas.Result.{err_from_is_err_and}
use Rattle.std.specs.FinMap.{empty}
use Rattle.edge_io.specs.Files.{Files}
use Rattle.snort_engine.specs.Steps.Reader.{IsReadable}
use Rattle.snort_engine.specs.Steps.Stop.{stop_text}
use Rattle.snort_engine.specs.Steps.Showing.{plan_of}
use Rattle.snort_engine.proofs.Showing.MadeCaptures.{generated_long, made_ends, unmade_ends, never_rose}
use Rattle.snort_engine.proofs.Headline.Quiet.{caused_unseen}
use Rattle.snort_engine.proofs.capture.show_made.Goals as goal

pub new-made-requires : goal.new-made-requires
new-made-requires g c = subst (λ (xs : List ℕ). 24 ≤ length xs) (sym (c.deref.ensures.value ∙ c.in_ok-bytes.ensures)) (generated_long c.args.seed c.args.count)

pub show_opened-requires-clause-readable : goal.show_opened-requires-clause-readable
show_opened-requires-clause-readable g c κs within =
    subst IsReadable (sym c.made_reader-reader.ensures) (record { fresh = refl; within = omega arith })

pub returns-in_err-bytes-clause-ends : goal.returns-in_err-bytes-clause-ends
unfolding stop_text
returns-in_err-bytes-clause-ends g c = λ matches test files course before same makes.
    let p = err_from_is_err_and c.from_residual.result c.from_residual.ensures.1 in
    rw (p.1, p.2) (unmade_ends (plan_of matches c.args.context.now.plan.now) files course c.args.seed c.args.count before _ makes same)

pub returns-clause-ends : goal.returns-clause-ends
returns-clause-ends g c = λ matches test files course before same makes.
    let none : Files = empty in
    made_ends (plan_of matches c.args.context.now.plan.now) files course c.args.seed c.args.count c.in_ok-bytes.bytes.items c.made_reader-reader.result _ _ _ _ before _ c.show_opened.result
    makes same c.in_ok-bytes.ensures c.made_reader-reader.ensures
    (c.new-made.ensures ∙ ap (λ (xs : List ℕ). Some (drop 24 xs)) c.deref.ensures.value)
    (c.show_opened.ensures.shows matches test (Some none) refl)
    (λ failed. never_rose (c.show_opened.ensures.causes.read_fault failed))

pub returns-clause-causes : goal.returns-clause-causes
returns-clause-causes g c = λ host. caused_unseen _ host _ _ _ c.show_opened.ensures.causes never_rose
