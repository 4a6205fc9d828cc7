-- `insert` answers whether the place is new to the set (`answer-is`), and adds it alone (`marks-added`).
use Rattle.pattern_search.proofs.Finding.Marking.{answer-is, marks-added}
use Rattle.pattern_search.proofs.seen.MarkSet.mark.Goals as goal

pub returns-clause-answer : goal.returns-clause-answer
returns-clause-answer c = answer-is c.args.self.now c.args.at c.in_ok-fresh.fresh c.in_ok-fresh.ensures.added

pub returns-clause-marked : goal.returns-clause-marked
returns-clause-marked c = marks-added c.args.self.now (record { places = c.insert.new.self }) c.args.at c.in_ok-fresh.ensures.updates.0
