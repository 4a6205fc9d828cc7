-- The law rests on items without a match giving no event, so that no count and no answer goes by them.
use Rattle.event_filters.proofs.Unmatched.{IsGiven-matched, kept-matched, kept-none}
use Rattle.event_filters.proofs.laws.nothing_matches.Goals as goal

pub returns-clause-given : goal.returns-clause-given
returns-clause-given c = IsGiven-matched

pub returns-clause-kept : goal.returns-clause-kept
returns-clause-kept c = kept-matched

pub returns-clause-none : goal.returns-clause-none
returns-clause-none c = kept-none
