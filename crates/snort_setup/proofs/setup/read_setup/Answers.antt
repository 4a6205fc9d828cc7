-- What the configuration, the rule lines and the host table answer one after another
-- is the setup, by files that agree with the host; files that it tells do agree.
use Rattle.std.proofs.Common.{Some, Ok, Err, refl, ◌∙◌}
use Rattle.std.proofs.lemmas.Result.{err_from_is_err_and}
use Rattle.edge_io.specs.Told.{Rose}
use Rattle.edge_io.proofs.Told.{rose-since}
use Rattle.conf_parser.proofs.Readings.Seeing.{told_before}
use Rattle.conf_parser.specs.Reading.{told}
use Rattle.snort_setup.specs.Words.{words_of}
use Rattle.snort_setup.specs.Setup.{conf_read}
use Rattle.snort_setup.specs.Whole.{ruled_of, ready_of}
use Rattle.snort_setup.specs.Steps.{grown_by}
use Rattle.snort_setup.proofs.Judging.{grows-none}
use Rattle.snort_setup.proofs.One.{setup-one}
use Rattle.snort_setup.proofs.Wholes.{conf-stopped, rules-stopped, table-stopped, all-ready, table-since, cause-since, cause-rules}
use Rattle.snort_setup.proofs.setup.read_setup.Goals as goal

pub returns-in_err-configured-clause-agreed : goal.returns-in_err-configured-clause-agreed
returns-in_err-configured-clause-agreed g c = λ files agree.
    let p = err_from_is_err_and c.from_residual.result c.from_residual.ensures.1 in
    rw (p.1, p.2)
    (conf-stopped ready_of (words_of c.args.words.now) files
    (Rose (g.H.Host.faults c.args.host.now) (g.H.Host.faults c.read_conf.new.host))
    (grown_by (g.M.PatternMaker.refusals c.args.maker.now) (g.M.PatternMaker.refusals c.args.maker.now))
    c.read_conf.new.warnings c.in_err-configured.field-0.0
    (c.in_err-configured.ensures.ends files agree))

pub returns-in_err-configured-clause-one : goal.returns-in_err-configured-clause-one
returns-in_err-configured-clause-one g c = setup-one

pub returns-in_err-ruled-clause-one : goal.returns-in_err-ruled-clause-one
returns-in_err-ruled-clause-one g c = setup-one

pub returns-in_err-hosts-clause-one : goal.returns-in_err-hosts-clause-one
returns-in_err-hosts-clause-one g c = setup-one

pub returns-clause-one : goal.returns-clause-one
returns-clause-one g c = setup-one

pub returns-in_err-configured-clause-only_made : goal.returns-in_err-configured-clause-only_made
returns-in_err-configured-clause-only_made g c = record {
  same_meaning = λ text flags bytes. refl;
  grows = grows-none (g.M.PatternMaker.refusals c.args.maker.now) (g.M.PatternMaker.refusals c.args.maker.now) refl;
}

pub returns-in_err-ruled-clause-agreed : goal.returns-in_err-ruled-clause-agreed
returns-in_err-ruled-clause-agreed g c = λ files agree.
    let p = err_from_is_err_and c.from_residual-in_err-ruled.result c.from_residual-in_err-ruled.ensures.1 in
    let words = words_of c.args.words.now in
    rw (p.1, p.2) (rules-stopped ready_of words files (Rose (g.H.Host.faults c.args.host.now) (g.H.Host.faults c.read_conf.new.host))
    (grown_by (g.M.PatternMaker.refusals c.args.maker.now) (g.M.PatternMaker.refusals c.read_ruled.new.maker)) c.read_ruled.new.warnings (ruled_of {P = g.row.M-Made.Denot}) c.in_err-ruled.field-0.0
    (c.in_err-ruled.ensures.gives words refl (conf_read words (told files)) (c.in_ok-configured.ensures.ends files agree)))

pub returns-in_err-ruled-clause-cause : goal.returns-in_err-ruled-clause-cause
returns-in_err-ruled-clause-cause g c =
    let p = err_from_is_err_and c.from_residual-in_err-ruled.result c.from_residual-in_err-ruled.ensures.1 in
    rw (p.1, p.2) (cause-rules (Rose (g.H.Host.faults c.args.host.now) (g.H.Host.faults c.read_conf.new.host)) (g.H.Host.contents c.args.host.now) c.in_err-ruled.field-0.0 c.in_err-ruled.ensures.kind)

pub returns-in_err-hosts-clause-agreed : goal.returns-in_err-hosts-clause-agreed
returns-in_err-hosts-clause-agreed g c = λ files agree.
    let p = err_from_is_err_and c.from_residual-in_err-hosts.result c.from_residual-in_err-hosts.ensures.1 in
    let words = words_of c.args.words.now in
    let old = g.H.Host.faults c.args.host.now in
    let mid = g.H.Host.faults c.read_conf.new.host in
    let new = g.H.Host.faults c.read_table.new.host in
    rw (p.1, p.2) (table-stopped ready_of words files (Rose old new)
    (grown_by (g.M.PatternMaker.refusals c.args.maker.now) (g.M.PatternMaker.refusals c.read_ruled.new.maker))
    c.read_ruled.new.warnings (ruled_of {P = g.row.M-Made.Denot}) c.in_ok-ruled.ruled c.in_err-hosts.field-0.0
    (c.in_ok-ruled.ensures.gives words refl (conf_read words (told files))
    (c.in_ok-configured.ensures.ends files (c.read_table.ensures.only_loaded.earlier (Some files) agree)))
    (table-since words.host_table files (Rose mid new) (Rose old new)
    (rose-since old mid new c.read_conf.ensures.only_loaded.later)
    (Err c.in_err-hosts.field-0.0)
    (c.in_err-hosts.ensures.gives files agree)))

pub returns-in_err-hosts-clause-cause : goal.returns-in_err-hosts-clause-cause
returns-in_err-hosts-clause-cause g c =
    let p = err_from_is_err_and c.from_residual-in_err-hosts.result c.from_residual-in_err-hosts.ensures.1 in
    let old = g.H.Host.faults c.args.host.now in
    let mid = g.H.Host.faults c.read_conf.new.host in
    let new = g.H.Host.faults c.read_table.new.host in
    rw (p.1, p.2) (cause-since (Rose mid new) (Rose old new) (g.H.Host.contents c.read_conf.new.host) (g.H.Host.contents c.args.host.now)
    (rose-since old mid new c.read_conf.ensures.only_loaded.later) c.read_conf.ensures.only_loaded.files c.in_err-hosts.field-0.0 c.in_err-hosts.ensures.cause)

pub returns-clause-agreed : goal.returns-clause-agreed
returns-clause-agreed g c = λ files agree.
    let words = words_of c.args.words.now in
    let old = g.H.Host.faults c.args.host.now in
    let mid = g.H.Host.faults c.read_conf.new.host in
    let new = g.H.Host.faults c.read_table.new.host in
    all-ready ready_of words files (Rose old new)
    (grown_by (g.M.PatternMaker.refusals c.args.maker.now) (g.M.PatternMaker.refusals c.read_ruled.new.maker))
    c.read_ruled.new.warnings (ruled_of {P = g.row.M-Made.Denot}) c.in_ok-ruled.ruled c.in_ok-hosts.hosts _
    (c.in_ok-ruled.ensures.gives words refl (conf_read words (told files))
    (c.in_ok-configured.ensures.ends files (c.read_table.ensures.only_loaded.earlier (Some files) agree)))
    (table-since words.host_table files (Rose mid new) (Rose old new)
    (rose-since old mid new c.read_conf.ensures.only_loaded.later)
    (Ok c.in_ok-hosts.hosts)
    (c.in_ok-hosts.ensures.gives files agree))
    refl

pub returns-in_err-configured-clause-setup : goal.returns-in_err-configured-clause-setup
returns-in_err-configured-clause-setup g c = λ files is.
    let host = c.read_conf.new.host in
    returns-in_err-configured-clause-agreed g c files
    (rw is at (told_before (g.H.Host.contents c.args.host.now) (g.H.Host.contents host) (g.H.Host.left host) (g.H.Host.agrees host) (g.H.Host.left_of host)
    (g.met.H.Host.as_told host) c.read_conf.ensures.only_loaded.files))

pub returns-in_err-ruled-clause-setup : goal.returns-in_err-ruled-clause-setup
returns-in_err-ruled-clause-setup g c = λ files is.
    let host = c.read_conf.new.host in
    returns-in_err-ruled-clause-agreed g c files
    (rw is at (told_before (g.H.Host.contents c.args.host.now) (g.H.Host.contents host) (g.H.Host.left host) (g.H.Host.agrees host) (g.H.Host.left_of host)
    (g.met.H.Host.as_told host) c.read_conf.ensures.only_loaded.files))

pub returns-in_err-hosts-clause-setup : goal.returns-in_err-hosts-clause-setup
returns-in_err-hosts-clause-setup g c = λ files is.
    let host = c.read_table.new.host in
    returns-in_err-hosts-clause-agreed g c files
    (rw is at (told_before (g.H.Host.contents c.args.host.now) (g.H.Host.contents host) (g.H.Host.left host) (g.H.Host.agrees host) (g.H.Host.left_of host)
    (g.met.H.Host.as_told host) (c.read_table.ensures.only_loaded.files ∙ c.read_conf.ensures.only_loaded.files)))

pub returns-clause-setup : goal.returns-clause-setup
returns-clause-setup g c = λ files is.
    let host = c.read_table.new.host in
    returns-clause-agreed g c files
    (rw is at (told_before (g.H.Host.contents c.args.host.now) (g.H.Host.contents host) (g.H.Host.left host) (g.H.Host.agrees host) (g.H.Host.left_of host)
    (g.met.H.Host.as_told host) (c.read_table.ensures.only_loaded.files ∙ c.read_conf.ensures.only_loaded.files)))
