-- The host of a capture that is made has no file, so that where `load` fails its contents lack the name: `get-empty`.
use Rattle.std.proofs.Common.{inr, nat_cmp}
use Rattle.std.specs.Cmp.Lexicographic.{slice_cmp}
use Rattle.std.specs.FinMap.{get-empty}
use Rattle.snort_engine.proofs.made.MadeCaptureHost.load.Goals as goal

pub returns-clause-failed : goal.returns-clause-failed
returns-clause-failed c = λ failed. inr (get-empty (slice_cmp nat_cmp) c.args._name.now)
