-- The event that waits after the records so far is all that the next one needs: it tells the lines that this one adds
-- (`lines_more`) and the event that waits then (`held_more`).
use Rattle.std.proofs.Common.{◌++◌, ◌∙◌, ap}
use Rattle.unified2_out.specs.declared.record.U2.{U2}
use Rattle.snort_eve.specs.Joins.{waiting, completed, lines_of}
use Rattle.snort_eve.proofs.Joining.{held_more, lines_more}
use Rattle.snort_eve.proofs.joins.push_all.Goals as goal

pub loop-entry-preserved : goal.loop-entry-preserved
loop-entry-preserved g c =
    let so_far = c.loop-entry.invariant in
    let line = g.T.Teller.line c.args.teller.now in
    record {
      waits = c.waiting-waits.ensures
          ∙ ap (waiting c.loop-entry.waits) c.entry-item.is
          ∙ held_more c.args.held c.loop-entry.waits c.args.entries.now c.loop-entry.entry-index c.entry-item.result c.loop-entry-test.true so_far.waits;
      written = lines_more line c.args.held c.loop-entry.waits c.args.entries.now c.loop-entry.entry-index c.entry-item.result
          c.args.out.now.items c.loop-entry.out.items c.push_completed.new.out.items c.loop-entry-test.true so_far.waits so_far.written
          (c.in_ok-push_completed.ensures ∙ ap (λ (e : U2). c.loop-entry.out.items ++ lines_of line (completed c.loop-entry.waits e)) c.entry-item.is);
    }
