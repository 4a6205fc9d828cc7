-- A place past the count is answered with false and no mark changes; below it, answer and marks are those of `MarkSet::mark`.
use Rattle.std.proofs.Common.{not, arith}
use Rattle.pattern_search.specs.Marking.{is_marked}
use Rattle.pattern_search.proofs.Finding.Marking.{past-answer, past-marks, below-answer, answer-marks}
use Rattle.pattern_search.proofs.automaton.mark.Goals as goal

pub returns-then-count-at-clause-answer : goal.returns-then-count-at-clause-answer
returns-then-count-at-clause-answer c = past-answer c.args.count c.args.at (not (is_marked c.args.seen.now c.args.at)) (omega arith)

pub returns-then-count-at-clause-marked : goal.returns-then-count-at-clause-marked
returns-then-count-at-clause-marked c = λ place. past-marks c.args.seen.now c.args.at place

pub returns-clause-answer : goal.returns-clause-answer
returns-clause-answer c = below-answer c.args.count c.args.at (not (is_marked c.args.seen.now c.args.at)) c.in_ok-fresh.fresh (omega arith) c.in_ok-fresh.ensures.answer

pub returns-clause-marked : goal.returns-clause-marked
returns-clause-marked c = answer-marks c.args.seen.now c.mark.new.self c.args.at c.in_ok-fresh.fresh c.in_ok-fresh.ensures.answer c.in_ok-fresh.ensures.marked
