-- A window is searched once the next begins past its end: so its ends are below all that the next can give.
use Rattle.std.proofs.Common.{◌<◌, length, arith}
use Rattle.std.proofs.lemmas.Bool.Decides.{nat_tests}
use Rattle.std.proofs.lemmas.Result.{IfOk-weaker}
use Rattle.option_eval.proofs.Sets.Sweeping.{apart_rising}
use Rattle.option_eval.proofs.sweep.gather_apart.Goals as goal

pub returns-then-done-low-clause-rising : goal.returns-then-done-low-clause-rising
returns-then-done-low-clause-rising c =
    let is = c.if-done-low.true in
    let apart : c.args.done < c.args.low = grind (arith, nat_tests) in
    IfOk-weaker c.gather.result _ _
    (λ next risen. apart_rising next.items c.args.done c.args.low c.args.from (length c.args.needle.now.bytes.now) apart risen)
    c.gather.ensures.rising
