-- The host of a capture that is made has no file, so that it lacks whatever name it is to open: `get-empty`.
use Rattle.std.proofs.Common.{inr, nat_cmp}
use Rattle.std.specs.Cmp.Lexicographic.{slice_cmp}
use Rattle.std.specs.FinMap.{get-empty}
use Rattle.snort_engine.proofs.made.MadeCaptureHost.open.Goals as goal

pub returns-clause-failed : goal.returns-clause-failed
returns-clause-failed c = inr (get-empty (slice_cmp nat_cmp) c.args._name.now)
