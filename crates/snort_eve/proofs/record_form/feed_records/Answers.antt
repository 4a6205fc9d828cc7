-- Whatever follows, the records so far are the first ones of all, so that their lines, or a part of those that the piece
-- adds, are a beginning of all lines: `piece-gives`.
use Rattle.snort_eve.specs.Events.{line_by}
use Rattle.snort_eve.proofs.Recording.{piece-gives}
use Rattle.snort_eve.proofs.record_form.feed_records.Goals as goal

pub returns-clause-gives : goal.returns-clause-gives
returns-clause-gives c =
    piece-gives (line_by c.args.lines.now) c.args.state.now.rest.items c.args.piece.now c.feed.new.self.rest.items c.args.state.now.held c.feed.new.self.held _ _ c.in_ok-fed.ensures.fed
