-- The lines of a text are what is before its first line feed, less a carriage
-- return, and the lines of what follows it; without a feed it is one line.
use Rattle.net_lists.proofs.FirstLine.{lines_cut, lines_last}
use Rattle.net_lists.proofs.lines.cut_line.Goals as goal

pub returns-in-Some-clause-cut : goal.returns-in-Some-clause-cut
returns-in-Some-clause-cut c = rw c.without_return.ensures (lines_cut c.args.text.now c.in-Some.end c.in-Some.ensures)

pub returns-in-None-clause-cut : goal.returns-in-None-clause-cut
returns-in-None-clause-cut c = lines_last c.args.text.now c.requires c.in-None.ensures
