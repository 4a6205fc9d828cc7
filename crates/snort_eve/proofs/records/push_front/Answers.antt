-- Where the header or a part of the body is lacking there is no record yet (`waits-none`), and where the header tells too
-- long a body there never is one (`large-none`).
use Rattle.std.proofs.Common.{refl}
use Rattle.snort_eve.proofs.FrontSteps.{waits-none, large-none}
use Rattle.snort_eve.proofs.records.push_front.Goals as goal

pub returns-in-Waits : goal.returns-in-Waits
returns-in-Waits c = (waits-none c.args.bytes.now c.in-Waits.ensures, refl)

pub returns-in-Foreign : goal.returns-in-Foreign
returns-in-Foreign c = (large-none c.args.bytes.now c.in-Foreign.ensures.0 c.in-Foreign.ensures.1, refl)
