-- An even move goes to a state whose chain is empty, so nothing is to be marked; an odd one, halved, is the place whose
-- chain `mark_ended` marks.
use Rattle.std.proofs.Common.{arith}
use Rattle.pattern_search.proofs.Finding.Hitting.{notes-none, notes-some}
use Rattle.pattern_search.proofs.automaton.Automaton.note.Goals as goal

pub returns-then-entry-eq0 : goal.returns-then-entry-eq0
returns-then-entry-eq0 c = notes-none c.args.self.now c.args.entry c.args.seen.now c.args.hits.now.items (omega arith)

pub returns : goal.returns
returns c = notes-some c.args.self.now c.args.entry c.args.seen.now c.mark_ended.new.seen c.args.hits.now.items c.mark_ended.new.hits.items c.in_ok-mark_ended.ensures
