-- A moment of 64 bits has a year of four digits and the parts of a date and a clock (`small-of`), so that larger
-- parts are those of no moment.
use Rattle.std.proofs.Common.{sym, ◌∙◌, true≢false}
use Rattle.alert_json.proofs.LineMoments.{small-of}
use Rattle.alert_json.proofs.line_moment.civil_of.Goals as goal

pub returns-else-are_small : goal.returns-else-are_small
returns-else-are_small c nanos few m =
    true≢false (sym (c.are_small.ensures.1 (small-of c.args.year c.args.time nanos few m)) ∙ c.if-are_small.false)
