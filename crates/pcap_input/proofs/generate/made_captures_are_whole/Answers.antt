-- The law rests on the file header that is always written, and on each record's
-- header telling how long its frame is, so that the walk comes to a clean end.
use Rattle.pcap_input.proofs.Made.Captures.{generated-head, made_cut-whole}
use Rattle.pcap_input.proofs.generate.made_captures_are_whole.Goals as goal

pub returns-clause-head : goal.returns-clause-head
returns-clause-head c = generated-head

pub returns-clause-whole : goal.returns-clause-whole
returns-clause-whole c = made_cut-whole
