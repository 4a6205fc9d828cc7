-- The fast pattern is a part of a content that isn't negated; such a content occurs in the payload, and so does its part
-- (`needs-pattern`).
use Rattle.fast_pattern.proofs.Candidates.Needing.{needs-pattern}
use Rattle.fast_pattern.proofs.groups.matching_needs_the_fast_pattern.Goals as goal

pub returns : goal.returns
returns c = λ rule payload occur. needs-pattern rule.opts payload occur
