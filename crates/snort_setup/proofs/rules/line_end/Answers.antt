-- The line's text is the bytes that `read_line` read, so what the maker was asked for is what this line asks.
use Rattle.snort_setup.proofs.rules.line_end.Goals as goal

pub returns-in-None-clause-asks : goal.returns-in-None-clause-asks
returns-in-None-clause-asks g c = rw c.bytes.ensures at c.in_ok-fault.ensures.asks

pub returns-in_ok-refused_line-in-Some-clause-asks : goal.returns-in_ok-refused_line-in-Some-clause-asks
returns-in_ok-refused_line-in-Some-clause-asks g c = rw c.bytes.ensures at c.in_ok-fault.ensures.asks
