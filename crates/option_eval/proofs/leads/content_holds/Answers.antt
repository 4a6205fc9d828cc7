-- A content that is a test holds where its bytes are within reach, or under `!`
-- where they aren't: `content_is_found` decides that, and `unless` turns it round.
use Rattle.option_eval.proofs.Walks.Leading.{content_stays}
use Rattle.option_eval.proofs.leads.content_holds.Goals as goal

pub returns-in-Needle : goal.returns-in-Needle
returns-in-Needle g c = λ means.
    content_stays means c.args.payload.now c.args.values.now c.args.place c.args.content.now c.content_is_found.result c.unless.result c.requires.test c.unless.ensures c.content_is_found.ensures
