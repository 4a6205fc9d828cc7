-- The draft so far, and then the parts that are left, give the draft after all.
use Rattle.std.proofs.Common.{◌≡◌}
use Rattle.net_lists.specs.Folds.{draft_after}
use Rattle.net_lists.proofs.parts.Parts.fold_by.Given as goal

abbrev pub invariant-loop-part : goal.invariant-loop-part
invariant-loop-part g l = record {
  can_next : (goal.iterator-loop-part g).can_next l.part-iterator;
  finite : (goal.iterator-loop-part g).is_finite l.part-iterator;
  so_far : draft_after (g.S.PartStep.next_draft l.step) l.fn.draft l.fn.self ≡ draft_after (g.S.PartStep.next_draft l.step) l.draft l.part-iterator;
}
