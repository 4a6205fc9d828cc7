-- The doors let in each item that some header fits, so one that they don't has no candidates, and nothing is to be appended
-- (`none-let-in`).
use Rattle.std.proofs.Common.{ℕ, List, ◌++◌, sym, ap, ◌∙◌}
use Rattle.std.proofs.lemmas.List.{append-nil}
use Rattle.fast_pattern.specs.Doors.{lets_in}
use Rattle.fast_pattern.proofs.Ports.Opening.{none-let-in}
use Rattle.fast_pattern.proofs.groups.Groups.find_candidates.Goals as goal

pub returns-then-not-lets_in-clause-appended : goal.returns-then-not-lets_in-clause-appended
returns-then-not-lets_in-clause-appended c = record {
  appended = λ rules hold.
      let groups = c.args.self.now in
      let none = none-let-in groups rules c.args.head.now.body c.args.payload.now hold (ap (λ ts. lets_in ts c.args.head.now.body) (sym c.deref.ensures.value) ∙ sym c.if-not-lets_in.ensures) in
      sym (ap (λ (xs : List ℕ). c.args.out.now.items ++ xs) none ∙ append-nil c.args.out.now.items);
}
