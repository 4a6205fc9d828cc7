-- A plain job with the next number was pushed, or nothing changed where memory was lacking: either way the jobs are numbered
-- from `first` on (`pushed`).
use Rattle.std.proofs.Common.{arith}
use Rattle.std.specs.Prelude.{is_ok}
use Rattle.layer_rows.proofs.Pushed.{pushed}
use Rattle.layer_rows.proofs.batches.add_job.Goals as goal

pub returns : goal.returns
returns c = λ are.
    pushed (is_ok c.push.result) c.args.first c.args.jobs.now.items c.push.new.self.items c.packet-job.result are
    c.packet-job.ensures.plain (omega (arith, c.packet-job.ensures.number, c.args.jobs.now.ok.0))
    c.push.ensures.items
