-- The kept numbers, sorted, are the live flows in ascending order (`live_flows-sorted`), since each live key is kept once
-- with its flow's number and no two have the same.
use Rattle.std.proofs.Common.{ℕ, List, ◌++◌, ap, ◌∙◌}
use Rattle.std.proofs.lemmas.List.Sorted.{IsNonDecreasingBy-from_sort}
use Rattle.stream5_sessions.proofs.Liveness.Numbers.{live_flows-sorted}
use Rattle.stream5_sessions.proofs.flows.Flows.live.Goals as goal

pub returns-clause-ok : goal.returns-clause-ok
returns-clause-ok c = λ touches seen.
    let flows : List ℕ = c.in_ok-flows.flows.items in
    let up = IsNonDecreasingBy-from_sort (λ (x : ℕ). x) flows c.in_ok-flows.ensures.sorted in
    c.in_ok-extend_from_slice.ensures.items
    ∙ ap (λ (xs : List ℕ). c.args.out.now.items ++ xs) (c.deref.ensures.value ∙ live_flows-sorted c.args.self.now touches flows seen c.in_ok-flows.ensures.permutation up)
