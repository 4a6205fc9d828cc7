-- The engine found and what the host table says of the address make the rules of `frag_rules` (`rules_by-engine`).
use Rattle.std.proofs.Common.{◌∙◌}
use Rattle.record_jobs.proofs.Ways.Bound.{rules_by-engine}
use Rattle.record_jobs.proofs.engines.frag_rules.Goals as goal

pub returns-in-Some : goal.returns-in-Some
returns-in-Some c =
    c.rules_of.ensures
    ∙ rules_by-engine c.args.hosts.now c.args.config.now c.args.addr c.as_slice.result.now c.frag_policy-host.result
    c.in-Some.engine.now c.as_slice.ensures c.frag_policy-host.ensures c.in-Some.ensures
