-- Agreeing segments have one byte at each place that any covers, and what is kept came in a segment that covers it; so it
-- makes no difference which one is chosen (`agreeing-kept`).
use Rattle.overlap_core.proofs.Segments.Agreeing.{agreeing-early, agreeing-kept, agreeing-order, stream-kept}
use Rattle.overlap_core.proofs.laws.agreeing_segments_are_one_stream.Goals as goal

pub returns-clause-kept : goal.returns-clause-kept
returns-clause-kept c = agreeing-kept

pub returns-clause-stream : goal.returns-clause-stream
returns-clause-stream c = stream-kept

pub returns-clause-order : goal.returns-clause-order
returns-clause-order c = agreeing-order

pub returns-clause-early : goal.returns-clause-early
returns-clause-early c = agreeing-early
