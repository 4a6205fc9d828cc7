-- A place and a letter within the table are a move of a row (`step-row`); past the table the state has no row, and
-- `step_back` has its move (`step-sparse`).
use Rattle.std.proofs.Common.{◌+◌, ◌<◌, ◌≤◌, length, ◌∙◌, arith}
use Rattle.std.proofs.lemmas.List.{get_or_default}
use Rattle.pattern_search.proofs.States.Stepping.{step-row, step-sparse}
use Rattle.pattern_search.proofs.automaton.Automaton.step.Goals as goal

pub returns-then-place-len : goal.returns-then-place-len
returns-then-place-len c =
    let table = c.args.self.now.table in
    let place = c.args.at + c.args.letter in
    let below : c.args.at + c.args.letter < length table.items = omega (arith, c.len.ensures, table.ok.0) in
    step-row c.args.self.now c.args.at c.args.letter c.index.result.now below (c.index.ensures ∙ get_or_default table.items place c.index.result.now 0 below)

pub returns : goal.returns
returns c =
    let table = c.args.self.now.table in
    let above : length table.items ≤ c.args.at + c.args.letter = omega (arith, c.len.ensures, table.ok.0) in
    step-sparse c.args.self.now c.args.at c.saturating_sub.result c.args.letter c.step_back.result above c.saturating_sub.ensures c.step_back.ensures
