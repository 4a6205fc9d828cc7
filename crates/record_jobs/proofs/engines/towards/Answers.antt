-- With one engine, to all, and an empty host table every address goes by the engine at place 0 and by no host's policy, so
-- the one answer is both (`toward_one`).
use Rattle.std.proofs.Common.{sym, ◌∙◌}
use Rattle.record_jobs.specs.Way.{way_of}
use Rattle.record_jobs.proofs.Ways.OnePlace.{toward_one}
use Rattle.record_jobs.proofs.engines.towards.Goals as goal

pub returns-then-alike-clause-dst : goal.returns-then-alike-clause-dst
returns-then-alike-clause-dst c =
    c.toward_by-to_all.ensures ∙ toward_one (way_of c.args.by.now) c.args.tcp c.args.time c.args.ip.now.dst (sym c.is_one_for_all-alike.ensures ∙ c.if-alike.true)

pub returns-then-alike-clause-src : goal.returns-then-alike-clause-src
returns-then-alike-clause-src c =
    c.toward_by-to_all.ensures ∙ toward_one (way_of c.args.by.now) c.args.tcp c.args.time c.args.ip.now.src (sym c.is_one_for_all-alike.ensures ∙ c.if-alike.true)
