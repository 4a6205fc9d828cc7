-- How the rule lines end decides: at a refused line with its message,
-- else with the accepted rules, which are never more than `most_rules`.
use Rattle.std.proofs.Common.{◌≡◌, [], length, sym, ap, subst, ◌∙◌, arith}
use Rattle.std.proofs.lemmas.List.Elements.{All-nil, All-same}
use Rattle.std.proofs.lemmas.Result.{err_from_is_err_and}
use Rattle.option_eval.specs.RuleSet.{Rules, FindWhatIsMeant}
use Rattle.rule_types.specs.Sound.{IsSound}
use Rattle.snort_setup.specs.declared.rules.Progress.{Progress}
use Rattle.snort_setup.specs.Rules.{RulesState, end_at, nothing_read}
use Rattle.snort_setup.specs.Setup.{frame_of}
use Rattle.snort_setup.specs.Lines.{state_of, RulesAnswer}
use Rattle.snort_setup.specs.Steps.{grown_by}
use Rattle.snort_setup.specs.Whole.{AreReady, ruled_of}
use Rattle.snort_setup.proofs.Few.{answer-few}
use Rattle.snort_setup.proofs.Wholes.{ruled-ready, ruled-refused, ruled-none}
use Rattle.snort_setup.proofs.setup.read_ruled.Goals as goal

pub returns-in_err-refusal-clause-gives : goal.returns-in_err-refusal-clause-gives
returns-in_err-refusal-clause-gives g c = λ words same ended is.
    let p = err_from_is_err_and c.from_residual.result c.from_residual.ensures.1 in
    rw (p.1, p.2)
    (ruled-none (ruled_of {P = g.row.M-Made.Denot}) words ended
    (grown_by (g.M.PatternMaker.refusals c.args.maker.now) (g.M.PatternMaker.refusals c.read_rules.new.maker))
    c.replace-before.new.dest)

pub returns-in-Some-clause-gives : goal.returns-in-Some-clause-gives
returns-in-Some-clause-gives g c = λ words same ended is.
    let grown = grown_by (g.M.PatternMaker.refusals c.args.maker.now) (g.M.PatternMaker.refusals c.read_rules.new.maker) in
    let frame = frame_of c.args.skips c.args.configured.vars c.args.configured.loaded in
    let end = end_at (state_of c.read_rules.new.progress) c.in_ok-refusal.refusal in
    let first : state_of c.first_progress-progress.result ≡ nothing_read c.args.warnings.now =
    ap (λ (p : Progress g.row.M-Made.Denot). state_of p) c.first_progress-progress.ensures ∙ ap nothing_read c.replace-before.ensures.value in
    ruled-refused (ruled_of {P = g.row.M-Made.Denot}) words c.args.skips same c.args.configured c.args.warnings.now ended is grown end
    (subst (λ (start : RulesState). RulesAnswer frame c.args.configured.loaded.rules start grown end) first c.in_ok-refusal.ensures.answer) c.in-Some.message c.in-Some.is

pub returns-clause-gives : goal.returns-clause-gives
returns-clause-gives g c = λ words same ended is.
    let grown = grown_by (g.M.PatternMaker.refusals c.args.maker.now) (g.M.PatternMaker.refusals c.read_rules.new.maker) in
    let frame = frame_of c.args.skips c.args.configured.vars c.args.configured.loaded in
    let end = end_at (state_of c.read_rules.new.progress) c.in_ok-refusal.refusal in
    let first : state_of c.first_progress-progress.result ≡ nothing_read c.args.warnings.now =
    ap (λ (p : Progress g.row.M-Made.Denot). state_of p) c.first_progress-progress.ensures ∙ ap nothing_read c.replace-before.ensures.value in
    ruled-ready (ruled_of {P = g.row.M-Made.Denot}) words c.args.skips same c.args.configured c.args.warnings.now ended is grown end
    (subst (λ (start : RulesState). RulesAnswer frame c.args.configured.loaded.rules start grown end) first c.in_ok-refusal.ensures.answer)
    c.in-None.is _ (λ i. record { config = c.args.configured.loaded.config; rules = (c.into_set.ensures i).rules })

pub returns-clause-ready : goal.returns-clause-ready
returns-clause-ready g c =
    let finds = g.M.Made.Pattern.finds in
    let means = g.M.PatternMaker.means c.args.maker.now in
    let config = c.args.configured.loaded.config in
    let start : Progress g.row.M-Made.Denot = c.first_progress-progress.result in
    let first = c.first_progress-progress.ensures in
    let ready = c.in_ok-refusal.ensures.ready in
    subst (λ (set : Rules g.row.M-Made.Denot). AreReady finds means config set) (sym c.into_set.ensures) (record {
      config = c.requires;
      rules =
          ready.sound (All-same (IsSound config.classes) start.accepted.rules []
          (ap (λ (p : Progress g.row.M-Made.Denot). p.accepted.rules) first)
          (All-nil (IsSound config.classes)));
      few =
          answer-few _ _ (state_of start) _ (end_at (state_of c.read_rules.new.progress) c.in_ok-refusal.refusal)
          (omega (arith, ap (λ (p : Progress g.row.M-Made.Denot). length p.accepted.rules) first))
          c.in_ok-refusal.ensures.answer;
      meant = ready.meant (subst (λ (p : Progress g.row.M-Made.Denot). FindWhatIsMeant finds means p.accepted) (sym first) tt);
    })
