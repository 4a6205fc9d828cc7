-- A datagram's head is that of the fragment that completed it, but for the offset and the flag, so it has the fragment's
-- addresses, both of one version (`ends`).
use Rattle.record_jobs.proofs.Addresses.{ends}
use Rattle.record_jobs.proofs.laws.datagrams_keep_addresses.Goals as goal

pub returns : goal.returns
returns c = ends
