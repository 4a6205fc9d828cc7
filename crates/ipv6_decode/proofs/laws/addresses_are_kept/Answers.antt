-- The law rests on each version's reader making addresses of its own version alone, as a record is read by one of the two.
use Rattle.ipv6_decode.proofs.Addresses.{versions}
use Rattle.ipv6_decode.proofs.laws.addresses_are_kept.Goals as goal

pub returns : goal.returns
returns c = versions
