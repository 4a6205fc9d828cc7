-- A block that isn't full isn't offered, so that no text comes and nothing changes: `emits_none`.
use Rattle.std.proofs.Common.{refl}
use Rattle.alert_lines.proofs.Emitting.{emits_none}
use Rattle.alert_lines.proofs.lines.offer_full.Goals as goal

pub returns-then-len-lt-BLOCK-clause-emits : goal.returns-then-len-lt-BLOCK-clause-emits
returns-then-len-lt-BLOCK-clause-emits g c = emits_none _ (λ known. refl)
