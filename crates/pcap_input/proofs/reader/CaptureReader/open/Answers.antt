-- What holds by whatever may be seen holds by what is told.
use Rattle.std.proofs.Common.{◌≡◌, ℕ, List, Some, None, drop}
use Rattle.std.specs.Prelude.{OnOk, IsErrOf, ◌⊎◌}
use Rattle.edge_io.proofs.Hosts.Seeing.{told}
use Rattle.pcap_input.specs.declared.capture.CaptureFault.TheVariants as fault
use Rattle.pcap_input.specs.Savefile.{file_header, head_of}
use Rattle.pcap_input.specs.Reader.{Opens, Tells, TakesHead}
use Rattle.pcap_input.proofs.reader.CaptureReader.open.Goals as goal

pub returns-clause-gives : goal.returns-clause-gives
returns-clause-gives g c =
    told g.H.Host g.met.H.Host.as_told c.args.host.now c.open_seen.new.host
    (λ contents old new. (bytes : List ℕ) → Tells contents c.args.name.now bytes → Opens c.open_seen.result (head_of bytes)) c.open_seen.ensures.same_contents c.open_seen.ensures.gives

pub returns-clause-rest : goal.returns-clause-rest
returns-clause-rest g c =
    told g.H.Host g.met.H.Host.as_told c.args.host.now c.open_seen.new.host
    (λ contents old new. (bytes : List ℕ) → Tells contents c.args.name.now bytes →
    OnOk c.open_seen.result (new ≡ Some (drop file_header bytes)))
    c.open_seen.ensures.same_contents c.open_seen.ensures.rest

pub returns-clause-takes : goal.returns-clause-takes
returns-clause-takes g c =
    told g.H.Host g.met.H.Host.as_told c.args.host.now c.open_seen.new.host
    (λ contents old new. TakesHead contents c.args.name.now c.open_seen.result new ⊎
    (IsErrOf c.open_seen.result fault.Failed × (new ≡ None)))
    c.open_seen.ensures.same_contents c.open_seen.ensures.takes
