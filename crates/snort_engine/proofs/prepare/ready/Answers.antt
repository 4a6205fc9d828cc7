-- What is left to do with a setup is the definition's way: with `test` the configuration is accepted, without a source the
-- words are no command, and else the plan goes by its source.
use Rattle.std.proofs.Common.{refl}
use Rattle.command_words.specs.Told.{run_of}
use Rattle.snort_setup.specs.Whole.{ready_of}
use Rattle.snort_engine.specs.Steps.Stop.{stop_text}
use Rattle.snort_engine.proofs.Preparing.Prepared.{no_source, ready_way, source_made}
use Rattle.snort_engine.proofs.prepare.ready.Goals as goal

pub returns-then-wanted-clause-way : goal.returns-then-wanted-clause-way
unfolding stop_text
returns-then-wanted-clause-way g c = λ matches. rw (c.if-wanted.true, c.rules.ensures) refl

pub returns-in_default-clause-way : goal.returns-in_default-clause-way
unfolding stop_text
returns-in_default-clause-way g c = λ matches.
    let none = no_source (run_of c.args.wanted.now) c.source_of.result c.in_default.not-Some c.source_of.ensures in
    rw (c.if-wanted.false, none.0, none.1) refl

pub returns-clause-way : goal.returns-clause-way
returns-clause-way g c = λ matches.
    ready_way matches (run_of c.args.wanted.now) (ready_of c.args.setup) c.in-Some.source c.checks_for.result c.if-wanted.false c.in-Some.ensures c.checks_for.ensures

pub returns-clause-made : goal.returns-clause-made
returns-clause-made g c = source_made (run_of c.args.wanted.now) c.in-Some.source c.in-Some.ensures
