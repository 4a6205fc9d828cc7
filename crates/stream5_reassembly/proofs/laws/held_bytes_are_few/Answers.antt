-- A place with a byte is below the top (`places-few`), which is no further from the base than the limit, and pieces in a row
-- have no more bytes than there are places between.
use Rattle.stream5_reassembly.proofs.Held.{places-few, bytes-few, pieces-few}
use Rattle.stream5_reassembly.proofs.laws.held_bytes_are_few.Goals as goal

pub returns-clause-places : goal.returns-clause-places
returns-clause-places c = places-few

pub returns-clause-bytes : goal.returns-clause-bytes
returns-clause-bytes c = bytes-few

pub returns-clause-pieces : goal.returns-clause-pieces
returns-clause-pieces c = pieces-few
