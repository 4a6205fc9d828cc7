-- What holds by whatever may be seen holds by what is told.
use Rattle.std.proofs.Common.{◌≡◌, ℕ, List, None}
use Rattle.std.specs.Prelude.{IsErrOf, ◌⊎◌}
use Rattle.edge_io.proofs.Hosts.Seeing.{told}
use Rattle.pcap_input.specs.Reader.{Tells}
use Rattle.pcapng_input.specs.declared.capture.NgFault.TheVariants as fault
use Rattle.pcapng_input.specs.Blocks.{opening}
use Rattle.pcapng_input.specs.Reader.{Opens, TakesHead}
use Rattle.pcapng_input.proofs.reader.NgReader.open.Goals as goal

pub returns-clause-gives : goal.returns-clause-gives
returns-clause-gives g c =
    told g.H.Host g.met.H.Host.as_told c.args.host.now c.open_seen.new.host
    (λ contents old new. (bytes : List ℕ) → Tells contents c.args.name.now bytes → Opens c.open_seen.result (opening bytes)) c.open_seen.ensures.same_contents c.open_seen.ensures.gives

pub returns-clause-takes : goal.returns-clause-takes
returns-clause-takes g c =
    told g.H.Host g.met.H.Host.as_told c.args.host.now c.open_seen.new.host
    (λ contents old new. TakesHead contents c.args.name.now c.open_seen.result new ⊎
    (IsErrOf c.open_seen.result fault.Failed × (new ≡ None)))
    c.open_seen.ensures.same_contents c.open_seen.ensures.takes
