-- What holds by whatever may be seen holds by what is told.
use Rattle.std.proofs.Common.{ℕ, List}
use Rattle.std.specs.Prelude.{IfOk}
use Rattle.edge_io.proofs.Hosts.Seeing.{told}
use Rattle.pcap_input.specs.Reader.{Tells}
use Rattle.pcapng_input.specs.Calls.{AreFirst}
use Rattle.pcapng_input.specs.Whole.{IsHeld}
use Rattle.pcapng_input.proofs.whole.read_up_to.Goals as goal

pub returns-clause-held : goal.returns-clause-held
returns-clause-held g c =
    told g.H.Host g.met.H.Host.as_told c.args.host.now c.read_seen.new.host
    (λ contents old new. (bytes : List ℕ) → Tells contents c.args.name.now bytes → IsHeld c.read_seen.result c.args.limit bytes)
    c.read_seen.ensures.same_contents c.read_seen.ensures.held

pub returns-clause-first : goal.returns-clause-first
returns-clause-first g c =
    told g.H.Host g.met.H.Host.as_told c.args.host.now c.read_seen.new.host
    (λ contents old new. (bytes : List ℕ) → Tells contents c.args.name.now bytes → IfOk c.read_seen.result (λ found. AreFirst found.records bytes))
    c.read_seen.ensures.same_contents c.read_seen.ensures.first
