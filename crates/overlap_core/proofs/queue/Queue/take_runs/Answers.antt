-- From the later floor on the raised pieces tell what they told (`raised-tells`), and the runs of the pieces' bytes are
-- those of the chosen ones (`byte_in-chosen`).
use Rattle.std.proofs.Common.{◌≡◌, ◌≤◌, max, rules, ap, sym, subst, ◌∙◌, arith}
use Rattle.overlap_core.specs.Joined.{byte_in}
use Rattle.overlap_core.specs.Overlap.{chosen_byte}
use Rattle.overlap_core.specs.Pieces.{IsRow, kept_in}
use Rattle.overlap_core.specs.QueueState.{QueueState}
use Rattle.overlap_core.proofs.Joined.Chosen.{appends-along, byte_in-chosen}
use Rattle.overlap_core.proofs.Segments.Ends.{covered_end-raised}
use Rattle.overlap_core.proofs.Rows.Telling.{IsRow-higher, raised-row, raised-tells}
use Rattle.overlap_core.proofs.queue.Queue.take_runs.Goals as goal

pub invariant_of-self-2 : goal.invariant_of-self-2
invariant_of-self-2 c =
    let q = c.self.inside in
    let floor : q.floor ≡ c.args.self.now.floor = ap (λ (s : QueueState). s.floor) c.self.view_is in
    let order : q.floor ≤ c.args.below = subst (λ n. n ≤ c.args.below) (sym floor) c.requires in
    record {
      row = subst (λ ps. IsRow c.args.below ps c.max-self-inside.result) (sym c.in_ok-take_below.ensures.list)
          (IsRow-higher c.args.below (max c.args.below q.top) c.max-self-inside.result _
          (omega (arith, c.max-self-inside.ensures))
          (raised-row c.args.below q.floor q.top q.pieces.list c.self.invariant.row));
      holds = λ place from.
          ap (λ ps. kept_in ps place) c.in_ok-take_below.ensures.list
          ∙ raised-tells c.args.below q.pieces.list place from
          ∙ c.self.invariant.holds place (omega (arith, from, order));
      top =
          c.max-self-inside.ensures
          ∙ ap (λ n. max n c.args.below) c.self.invariant.top
          ∙ sym (covered_end-raised q.floor c.args.below q.arrivals.segments order);
      room = search rules;
    }

pub returns-clause-runs : goal.returns-clause-runs
returns-clause-runs c =
    let q = c.self.inside in
    let floor : q.floor ≡ c.args.self.now.floor = ap (λ (s : QueueState). s.floor) c.self.view_is in
    let order : q.floor ≤ c.args.below = subst (λ n. n ≤ c.args.below) (sym floor) c.requires in
    rw (← c.self.view_is)
    (appends-along (byte_in q.pieces.list) (chosen_byte q.preference q.arrivals.segments)
    q.floor c.args.below c.args.out.now.items c.take_below.new.out.items
    (byte_in-chosen q.preference q.arrivals.segments q.floor q.pieces.list c.self.invariant.holds)
    (c.in_ok-take_below.ensures.runs q.floor q.top c.self.invariant.row order))
