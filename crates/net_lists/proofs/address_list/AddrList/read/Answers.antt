-- A text spells one list of addresses at most: what was read is that list,
-- a bad text spells none, and one too long has more than 1024 parts.
use Rattle.net_lists.specs.Addresses.{address_bounds}
use Rattle.net_lists.specs.Compact.{parts_of}
use Rattle.net_lists.proofs.Lists.Starts.{address_parts}
use Rattle.net_lists.proofs.Lists.Parts.{spelled, answer_ok, answer_bad, answer_long, is_too_long}
use Rattle.net_lists.proofs.address_list.AddrList.read.Goals as goal

pub returns-in-Ok-clause-spelled : goal.returns-in-Ok-clause-spelled
returns-in-Ok-clause-spelled c = let read = c.in-Ok.ensures in spelled address_bounds c.args.text.now (parts_of c.in-Ok.stored) read.0

pub returns-in-Ok-clause-answer : goal.returns-in-Ok-clause-answer
returns-in-Ok-clause-answer c = let read = c.in-Ok.ensures in answer_ok address_bounds address_parts c.args.text.now (parts_of c.in-Ok.stored) read.0 read.1

pub returns-in-Err-Bad-clause-answer : goal.returns-in-Err-Bad-clause-answer
returns-in-Err-Bad-clause-answer c = answer_bad address_bounds address_parts c.args.text.now (rw c.in-Err-Bad.field-0-is at c.in-Err-Bad.ensures)

pub returns-in-Err-TooLong-clause-answer : goal.returns-in-Err-TooLong-clause-answer
returns-in-Err-TooLong-clause-answer c = let long = rw c.in-Err-TooLong.field-0-is at c.in-Err-TooLong.ensures in answer_long address_bounds address_parts c.args.text.now long.0 long.1 long.2

pub returns-in-Err-TooLong-clause-too_long : goal.returns-in-Err-TooLong-clause-too_long
returns-in-Err-TooLong-clause-too_long c = λ _. let long = rw c.in-Err-TooLong.field-0-is at c.in-Err-TooLong.ensures in is_too_long address_bounds c.args.text.now long.0 long.1 long.2
