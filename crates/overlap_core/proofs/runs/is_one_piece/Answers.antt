-- The first piece ends by the limit, and the next begins no earlier (`first-begins`), or there is none (`first-none`).
use Rattle.std.proofs.Common.{◌≤◌, sym, subst, ◌∙◌, arith}
use Rattle.std.proofs.lemmas.Bool.Decides.{nat_tests}
use Rattle.overlap_core.proofs.Joined.Single.{first-begins, first-none}
use Rattle.overlap_core.proofs.runs.is_one_piece.Goals as goal

pub returns-in-Some-next : goal.returns-in-Some-next
returns-in-Some-next c = λ is.
    let from : c.args.below ≤ c.start.result = grind (arith, nat_tests) in (
      c.in-Some.first.now,
      c.next.new.self,
      sym c.iter-rest.ensures ∙ c.in-Some.ensures.steps,
      subst (λ n. n ≤ c.args.below) c.end.ensures c.if-below-end.false,
      first-begins c.args.below c.next.new.self c.next-2.new.self c.in-Some-next.piece.now c.in-Some-next.ensures.steps (subst (λ n. c.args.below ≤ n) c.start.ensures from),
    )

pub returns-in-None : goal.returns-in-None
returns-in-None c = λ _. (
  c.in-Some.first.now,
  c.next.new.self,
  sym c.iter-rest.ensures ∙ c.in-Some.ensures.steps,
  subst (λ n. n ≤ c.args.below) c.end.ensures c.if-below-end.false,
  first-none c.args.below c.next.new.self c.in-None.ensures.steps.0,
)
