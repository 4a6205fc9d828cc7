-- What holds by whatever may be seen holds by what is told.
use Rattle.std.proofs.Common.{◌≡◌, ◌<◌, length, take}
use Rattle.std.specs.Prelude.{IfOk, IfErr}
use Rattle.edge_io.specs.Files.{IsUnopened}
use Rattle.edge_io.specs.Told.{before, NothingLeft}
use Rattle.edge_io.proofs.Hosts.Seeing.{told}
use Rattle.pcap_input.proofs.fill.fill.Goals as goal

pub returns-clause-taken : goal.returns-clause-taken
returns-clause-taken g c =
    told g.H.Host g.met.H.Host.as_told c.args.host.now c.fill_seen.new.host
    (λ contents old new. IfOk c.fill_seen.result (λ count. old ≡ before (take count c.fill_seen.new.buf) new)) c.fill_seen.ensures.only_read.files c.fill_seen.ensures.taken

pub returns-clause-ended : goal.returns-clause-ended
returns-clause-ended g c =
    told g.H.Host g.met.H.Host.as_told c.args.host.now c.fill_seen.new.host
    (λ contents old new. IfOk c.fill_seen.result (λ count. count < length c.args.buf.now → NothingLeft new)) c.fill_seen.ensures.only_read.files c.fill_seen.ensures.ended

pub returns-clause-unopened : goal.returns-clause-unopened
returns-clause-unopened g c =
    told g.H.Host g.met.H.Host.as_told c.args.host.now c.fill_seen.new.host
    (λ contents old new. IsUnopened contents old → IfOk c.fill_seen.result (λ count. count ≡ 0)) c.fill_seen.ensures.only_read.files c.fill_seen.ensures.unopened

pub returns-clause-stopped : goal.returns-clause-stopped
returns-clause-stopped g c =
    told g.H.Host g.met.H.Host.as_told c.args.host.now c.fill_seen.new.host
    (λ contents old new. IfErr c.fill_seen.result (λ stop. old ≡ before (take stop.done c.fill_seen.new.buf) new)) c.fill_seen.ensures.only_read.files c.fill_seen.ensures.stopped
