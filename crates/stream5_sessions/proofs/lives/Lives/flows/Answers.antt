-- The cache's entries have the values of the keys' entries, as these differ in the keys alone (`values-entries`).
use Rattle.std.proofs.Common.{◌≡◌, ℕ, List, IfOk, sym, ap, subst, ◌∙◌}
use Rattle.std.specs.Map.{values_of}
use Rattle.stream5_sessions.specs.Indexed.{LivesState}
use Rattle.stream5_sessions.proofs.Trees.Living.{values-entries}
use Rattle.stream5_sessions.proofs.lives.Lives.flows.Goals as goal

pub returns : goal.returns
returns c =
    let same = sym (values-entries c.self.inside.cache.entries) ∙ ap (λ (l : LivesState). values_of l.entries) c.self.view_is in
    subst (λ (l : List ℕ). IfOk c.flows_of.result (λ flows. flows.items ≡ l)) same c.flows_of.ensures
