-- The parts of a line leave no choice of the two words of its ends (`same_words`): the line is read where these words are
-- ends, and is no alert's where they aren't.
use Rattle.alert_fast.specs.PartsRead.{part_facts}
use Rattle.alert_fast.proofs.ReadBack.Readings.{reading_none, reading_no_ends, reading_whole}
use Rattle.alert_fast.proofs.reader.read_line.Goals as goal

pub returns-in-None : goal.returns-in-None
returns-in-None c = reading_none c.args.line.now c.in-None.ensures

pub returns-in-None-2 : goal.returns-in-None-2
returns-in-None-2 c = reading_no_ends c.args.line.now (part_facts c.in-Some.parts) c.in-Some.ensures (rw c.in-None-2.is at c.in_ok-ends-in-Some.ensures)

pub returns-in-Some-2 : goal.returns-in-Some-2
returns-in-Some-2 c = reading_whole c.args.line.now (part_facts c.in-Some.parts) c.in-Some.ensures c.in-Some-2.ends (rw (c.in-Some-2.is, c.has_ports.ensures) at c.in_ok-ends-in-Some.ensures)
