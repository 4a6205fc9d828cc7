-- The law rests on what a line gives not going by the warnings: so a skipped
-- line's warning is carried along to the end, and nothing else differs.
use Rattle.snort_setup.proofs.SkippedLines.{outside-skipped, refused-skipped, skipped}
use Rattle.snort_setup.proofs.laws.skipped_lines_only_warn.Goals as goal

pub returns-clause-only : goal.returns-clause-only
returns-clause-only c = skipped

pub returns-clause-outside : goal.returns-clause-outside
returns-clause-outside c = outside-skipped

pub returns-clause-refused : goal.returns-clause-refused
returns-clause-refused c = refused-skipped
