-- A sink that stopped has taken the first `done` bytes of the lines, and these are a part of them:
-- the lemma `WritesPart-take`.
use Rattle.alert_lines.proofs.Prefixes.{WritesPart-take}
use Rattle.snort_engine.proofs.listing.write_lines.Goals as goal

pub returns-in-Err-clause-part : goal.returns-in-Err-clause-part
returns-in-Err-clause-part g c =
    let stopped = rw c.bytes.ensures at c.in-Err.ensures.stopped in
    WritesPart-take _ _ c.in-Err.stop.done c.args.lines.now stopped
