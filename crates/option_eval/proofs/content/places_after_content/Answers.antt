-- A content longer than the payload leads nowhere; else it leads to
-- the ends that `sweep` gathers within its reach of the places asked.
use Rattle.std.proofs.Common.{length, arith, ap}
use Rattle.std.proofs.lemmas.Result.{IfOk-weaker}
use Rattle.option_eval.proofs.Sets.Contents.{content_none, content_gathers}
use Rattle.option_eval.proofs.content.places_after_content.Goals as goal

pub returns-then-needle-at-clause-found : goal.returns-then-needle-at-clause-found
returns-then-needle-at-clause-found g c = λ means.
    let size = ap length c.needle-needle.ensures.bytes in
    rw c.new.ensures.items (content_none c.args.every means c.args.at.now.payload.now c.args.at.now.values.now c.args.content.now c.requires.plain c.args.at.now.places.now (omega arith))

pub returns-clause-found : goal.returns-clause-found
returns-clause-found g c = λ means.
    IfOk-weaker c.sweep.result _ _
    (λ next found. content_gathers c.args.every means c.args.at.now.payload.now c.args.at.now.values.now c.args.content.now c.requires.plain
    c.args.at.now.places.now c.reach.result c.reach.ensures.from c.reach.ensures.room
    c.needle-needle.result.nocase c.needle-needle.result.bytes.now c.asked_from-asked.result.now next.items
    c.needle-needle.ensures.bytes c.needle-needle.ensures.nocase c.args.at.now.some c.asked_from-asked.ensures found)
    c.sweep.ensures.found
