-- What a line gives by itself it gives at the front of bytes too, and one that gives no record never does, whatever follows
-- (`front-step`); where no line can ever begin, none gives a record (`none-ever-told`).
use Rattle.std.proofs.Common.{refl}
use Rattle.alert_json.specs.Facts.{run_facts}
use Rattle.alert_json.proofs.LineMoments.Walks.{front-step, none-ever-told}
use Rattle.alert_json.proofs.line_walk.push_front.Goals as goal

pub returns-in-Line : goal.returns-in-Line
returns-in-Line c =
    front-step (run_facts c.args.run.now) c.args.from c.args.bytes.now _ _ c.in-Line.size c.push_whole.result c.in-Line.ensures c.push_whole.ensures

pub returns-in-Foreign : goal.returns-in-Foreign
returns-in-Foreign c = (none-ever-told c.args.from c.args.bytes.now c.in-Foreign.ensures, refl)
