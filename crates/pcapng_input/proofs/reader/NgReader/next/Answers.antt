-- What holds by whatever may be seen holds by what is told.
use Rattle.std.proofs.Common.{◌≡◌, ℕ, List, Some, None}
use Rattle.std.specs.Prelude.{IfOk, IfErr, IfSome, IfNone}
use Rattle.edge_io.specs.Files.{IsUnopened}
use Rattle.edge_io.proofs.Hosts.Seeing.{told}
use Rattle.pcap_input.specs.Cut.{Clean}
use Rattle.pcapng_input.specs.Blocks.{Ends, next_of}
use Rattle.pcapng_input.specs.Reader.{Answers, TakesRecord, TakesBlocks, TakesNone}
use Rattle.pcapng_input.proofs.reader.NgReader.next.Goals as goal

pub returns-clause-gives : goal.returns-clause-gives
returns-clause-gives g c =
    told g.H.Host g.met.H.Host.as_told c.args.host.now c.next_seen.new.host
    (λ contents old new. c.args.self.now.refused ≡ None → (rest : List ℕ) → old ≡ Some rest → Answers c.next_seen.result (next_of c.args.self.now.walk rest))
    c.next_seen.ensures.only_read.files c.next_seen.ensures.gives

pub returns-clause-unopened : goal.returns-clause-unopened
returns-clause-unopened g c =
    told g.H.Host g.met.H.Host.as_told c.args.host.now c.next_seen.new.host
    (λ contents old new. c.args.self.now.refused ≡ None → IsUnopened contents old → Answers c.next_seen.result (Ends Clean))
    c.next_seen.ensures.only_read.files c.next_seen.ensures.unopened

pub returns-clause-takes : goal.returns-clause-takes
returns-clause-takes g c =
    told g.H.Host g.met.H.Host.as_told c.args.host.now c.next_seen.new.host
    (λ contents old new. IfOk c.next_seen.result (λ given. IfSome given (λ r. TakesRecord c.args.self.now c.next_seen.new.self r old new)))
    c.next_seen.ensures.only_read.files c.next_seen.ensures.takes

pub returns-clause-ended : goal.returns-clause-ended
returns-clause-ended g c =
    told g.H.Host g.met.H.Host.as_told c.args.host.now c.next_seen.new.host
    (λ contents old new. IfOk c.next_seen.result (λ given. IfNone given (TakesBlocks c.args.self.now c.next_seen.new.self old new)))
    c.next_seen.ensures.only_read.files c.next_seen.ensures.ended

pub returns-clause-partial : goal.returns-clause-partial
returns-clause-partial g c =
    told g.H.Host g.met.H.Host.as_told c.args.host.now c.next_seen.new.host
    (λ contents old new. c.args.self.now.refused ≡ None → IfErr c.next_seen.result (λ why. TakesNone c.args.self.now why old new))
    c.next_seen.ensures.only_read.files c.next_seen.ensures.partial
