-- `sort_unstable` gives as many places in order, so writing them over the slice replaces all of it.
use Rattle.std.proofs.Common.{ℕ, ◌≡◌, length, ap, ◌∙◌}
use Rattle.std.specs.List.{refill}
use Rattle.std.proofs.lemmas.List.Sorted.{IsNonDecreasingBy-from_sort}
use Rattle.option_eval.proofs.Sets.Asking.{refill_whole}
use Rattle.option_eval.proofs.next.sorted.Goals as goal

pub returns-clause-order : goal.returns-clause-order
returns-clause-order c =
    let order = IsNonDecreasingBy-from_sort (λ (x : ℕ). x) c.sort_unstable.new.self c.sort_unstable.ensures.sorted in
    let whole : refill (length c.args.places.items) c.args.places.items c.sort_unstable.new.self ≡ c.sort_unstable.new.self =
    refill_whole c.args.places.items c.sort_unstable.new.self
    (c.sort_unstable.ensures.len ∙ ap length c.as_mut_slice.ensures.value) in
    rw whole order
