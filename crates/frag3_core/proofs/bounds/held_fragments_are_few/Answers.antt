-- After each fragment at most `most` are held, and each tracker has some, none of which ends past place 65535; from that the
-- four bounds follow by sums.
use Rattle.frag3_core.proofs.Held.{fragments_few, datagrams_few, places_few, bytes_few}
use Rattle.frag3_core.proofs.bounds.held_fragments_are_few.Goals as goal

pub returns-clause-fragments : goal.returns-clause-fragments
returns-clause-fragments c = fragments_few

pub returns-clause-datagrams : goal.returns-clause-datagrams
returns-clause-datagrams c = datagrams_few

pub returns-clause-places : goal.returns-clause-places
returns-clause-places c = places_few

pub returns-clause-bytes : goal.returns-clause-bytes
returns-clause-bytes c = bytes_few
