-- The law rests on each step of reading a line giving a value or a fault,
-- whatever the bytes, and on none of these faults being want of memory.
use Rattle.rule_parser.proofs.Lines.SomeMeaning.{some_meaning}
use Rattle.rule_parser.proofs.laws.lines_have_a_meaning.Goals as goal

pub returns : goal.returns
returns c = λ variables classes names line. some_meaning variables classes names line
