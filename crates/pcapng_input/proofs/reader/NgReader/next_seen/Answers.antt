-- What the walk answers is what the reader does.
use Rattle.std.proofs.Common.{◌≡◌, Ok, Err, None, rules}
use Rattle.edge_io.specs.Files.{left_by}
use Rattle.pcapng_input.proofs.Captures.Walking.{goes_answers, goes_none, takes_by, ended_by, none_refused}
use Rattle.pcapng_input.proofs.reader.NgReader.next_seen.Goals as goal

pub returns-in-Ok-clause-gives : goal.returns-in-Ok-clause-gives
returns-in-Ok-clause-gives g c = λ seen may fresh rest told.
    rw (← c.self.view_is)
    (goes_answers c.self.inside.walk c.read_next.new.walk (Ok c.in-Ok.given) (left_by (g.H.Host.left_of c.args.host.now) seen)
    (left_by (g.H.Host.left_of c.read_next.new.host) seen)
    (c.in-Ok.ensures.goes seen may) rest told)

pub returns-in-Err-clause-gives : goal.returns-in-Err-clause-gives
returns-in-Err-clause-gives g c = λ seen may fresh rest told.
    rw (← c.self.view_is)
    (goes_answers c.self.inside.walk c.read_next.new.walk (Err c.in-Err.why) (left_by (g.H.Host.left_of c.args.host.now) seen)
    (left_by (g.H.Host.left_of c.read_next.new.host) seen)
    (c.in-Err.ensures.goes seen may) rest told)

pub returns-in-Ok-clause-takes : goal.returns-in-Ok-clause-takes
returns-in-Ok-clause-takes g c = λ seen may.
    let fresh : c.self.inside.refused ≡ None = first_of (cc, search rules, search (rules, none_refused)) in
    rw (← c.self.view_is) (takes_by (record { walk = c.self.inside.walk; refused = c.self.inside.refused }) (record { walk = c.read_next.new.walk; refused = c.self.inside.refused }) c.in-Ok.given
    (left_by (g.H.Host.left_of c.args.host.now) seen) (left_by (g.H.Host.left_of c.read_next.new.host) seen) (c.in-Ok.ensures.goes seen may) fresh)

pub returns-in-Ok-clause-ended : goal.returns-in-Ok-clause-ended
returns-in-Ok-clause-ended g c = λ seen may.
    let fresh : c.self.inside.refused ≡ None = first_of (cc, search rules, search (rules, none_refused)) in
    rw (← c.self.view_is) (ended_by (record { walk = c.self.inside.walk; refused = c.self.inside.refused }) (record { walk = c.read_next.new.walk; refused = c.self.inside.refused }) c.in-Ok.given
    (left_by (g.H.Host.left_of c.args.host.now) seen) (left_by (g.H.Host.left_of c.read_next.new.host) seen) (c.in-Ok.ensures.goes seen may) fresh)

pub returns-in-Err-clause-partial : goal.returns-in-Err-clause-partial
returns-in-Err-clause-partial g c = λ seen may fresh.
    rw (← c.self.view_is)
    (goes_none (record { walk = c.self.inside.walk; refused = c.self.inside.refused })
    c.read_next.new.walk c.in-Err.why
    (left_by (g.H.Host.left_of c.args.host.now) seen)
    (left_by (g.H.Host.left_of c.read_next.new.host) seen)
    (c.in-Err.ensures.goes seen may))
