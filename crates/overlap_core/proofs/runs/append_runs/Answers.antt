-- Where `out` is empty, the runs that take its stead are its own, none, and then these (`no_runs`).
use Rattle.std.proofs.Common.{◌≡◌, ◌==◌, true, length, vec_len, sym, ◌∙◌, arith}
use Rattle.std.proofs.lemmas.Bool.Decides.{nat_tests}
use Rattle.overlap_core.proofs.Joined.Single.{no_runs}
use Rattle.overlap_core.proofs.runs.append_runs.Goals as goal

pub returns-then-is_empty-clause-ok : goal.returns-then-is_empty-clause-ok
returns-then-is_empty-clause-ok c = λ floor top row order.
    let out = c.args.out.now in
    let runs = c.in_ok-runs.runs.items in
    let test : (vec_len out == 0) ≡ true = sym c.is_empty.ensures ∙ c.if-is_empty.true in
    let none : length out.items ≡ 0 = grind (arith, nat_tests, out.ok.0) in
    (runs, no_runs out.items runs none, c.in_ok-runs.ensures floor top row order)
