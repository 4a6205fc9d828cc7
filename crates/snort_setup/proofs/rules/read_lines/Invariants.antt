-- The lines before lead to what there is now, rules stay ready, and the maker means what it meant.
use Rattle.std.proofs.Common.{length}
use Rattle.snort_setup.specs.Lines.{lines_frame, state_of, StayReady}
use Rattle.snort_setup.specs.Steps.{grown_by, OnlyMade}
use Rattle.snort_setup.proofs.LinesRead.{SoFar}
use Rattle.snort_setup.proofs.rules.read_lines.Given as goal

abbrev pub invariant-lines : goal.invariant-lines
invariant-lines g l = record {
  so : SoFar (lines_frame l.lines) l.fn.rules (state_of l.fn.progress) (state_of l.progress) l.rest (grown_by (g.M.PatternMaker.refusals l.fn.maker) (g.M.PatternMaker.refusals l.maker));
  ready : StayReady g.M.Made.Pattern.finds (g.M.PatternMaker.means l.fn.maker) l.lines.classes.now l.fn.progress.accepted l.progress.accepted;
  made : OnlyMade (g.M.PatternMaker.means l.fn.maker) (g.M.PatternMaker.means l.maker) (g.M.PatternMaker.refusals l.fn.maker) (g.M.PatternMaker.refusals l.maker);
}

abbrev pub decreases-lines : goal.decreases-lines
decreases-lines g l = length l.rest
