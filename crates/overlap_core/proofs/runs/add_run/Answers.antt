-- Bytes are joined to the last run where that ends at their start (`with_run-meets`), and are a run of their own after
-- another (`with_run-apart`) or after none (`with_run-first`).
use Rattle.std.proofs.Common.{◌≡◌, [], ◌∷◌, ◌++◌, ap, sym, ◌∙◌, arith}
use Rattle.overlap_core.specs.Joined.{with_run}
use Rattle.overlap_core.proofs.Joined.Joining.{make_run, with_run-apart, with_run-first, with_run-meets}
use Rattle.overlap_core.proofs.Rows.Places.{on_ok1}
use Rattle.overlap_core.proofs.runs.add_run.Goals as goal

pub returns-then-ends_at : goal.returns-then-ends_at
returns-then-ends_at c =
    let old = c.in-Some.ensures.items in
    let front = c.pop.new.self.items in
    let bytes = c.from_vec.ensures ∙ c.in_ok-extend_from_slice.ensures.items ∙ ap (λ bs. bs ++ c.args.bytes.now) c.into_vec-whole.ensures in
    c.in_ok-push.ensures.items ∙ ap (λ bs. front ++ make_run c.in-Some.last.start bs ∷ []) bytes
    ∙ sym (ap (λ rs. with_run rs c.args.start c.args.bytes.now) old ∙ with_run-meets front c.in-Some.last c.args.start c.args.bytes.now (c.ends_at.ensures.0 c.if-ends_at.true))

pub returns-in_default : goal.returns-in_default
returns-in_default c =
    on_ok1 c.push_run.result _ (c.push_run.new.runs.items ≡ with_run c.args.runs.now.items c.args.start c.args.bytes.now)
    c.push_run.ensures
    (λ pushed. pushed ∙
    with_run-first c.args.runs.now.items c.pop.new.self.items c.args.start c.args.bytes.now c.in_default.ensures.items
    (omega (arith, c.in_default.ensures.cases.1, c.pop.new.self.ok.0)))

pub returns : goal.returns
returns c =
    on_ok1 c.push_run-2.result _ (c.push_run-2.new.runs.items ≡ with_run c.args.runs.now.items c.args.start c.args.bytes.now)
    c.push_run-2.ensures
    (λ pushed. pushed ∙ ap (λ rs. rs ++ make_run c.args.start c.args.bytes.now ∷ []) c.in_ok-push-2.ensures.items
    ∙ sym (ap (λ rs. with_run rs c.args.start c.args.bytes.now) c.in-Some.ensures.items ∙
    with_run-apart c.pop.new.self.items c.in-Some.last c.args.start c.args.bytes.now
    (λ meets. let is = c.ends_at.ensures.1 meets in let fails = c.if-ends_at.false in cc)))
