-- A line that is a rule gives what `judge` makes of it; any other has its
-- fault, which isn't want of memory, and leaves the names as they were.
use Rattle.std.proofs.Common.{Some, refl, sym, subst}
use Rattle.option_eval.specs.RuleSet.{Rules, FindWhatIsMeant}
use Rattle.rule_parser.specs.declared.fault.RuleFault.{RuleFault}
use Rattle.snort_setup.specs.Rules.{RulesState, judged}
use Rattle.snort_setup.specs.Lines.{lines_frame, state_of, IsRead}
use Rattle.snort_setup.specs.Steps.{refused_one, IsJudged}
use Rattle.snort_setup.proofs.Stepping.{read-judged, read-faulty, sound-judged, not-memory}
use Rattle.snort_setup.proofs.rules.read_line.Goals as goal

pub returns-in_ok-accepted-in-Ok-clause-read : goal.returns-in_ok-accepted-in-Ok-clause-read
returns-in_ok-accepted-in-Ok-clause-read g c =
    let is_refused = refused_one (g.M.PatternMaker.refusals c.args.maker.now) (g.M.PatternMaker.refusals c.judge.new.maker) in
    let accepted = c.in_ok-accepted-in-Ok.accepted.rules in
    let fault = c.in_ok-accepted-in-Ok.fault in
    let after : RulesState = record { names = c.read_rule.new.bits; rules = accepted; warnings = c.args.progress.now.warnings } in
    let Judged : Rules g.row.M-Made.Denot → Type 0 = λ set. IsJudged set.rules (judged set.rules is_refused c.in-Ok.rule) accepted fault in
    read-judged (lines_frame c.args.lines.now) (state_of c.args.progress.now) c.args.text.now is_refused c.in-Ok.rule after fault c.in-Ok.ensures.meant refl
    (subst Judged c.replace-before.ensures.value c.in_ok-accepted-in-Ok.ensures.judged)

pub returns-in_ok-accepted-in-Ok-clause-ready : goal.returns-in_ok-accepted-in-Ok-clause-ready
returns-in_ok-accepted-in-Ok-clause-ready g c =
    let is_refused = refused_one (g.M.PatternMaker.refusals c.args.maker.now) (g.M.PatternMaker.refusals c.judge.new.maker) in
    let accepted = c.in_ok-accepted-in-Ok.accepted in
    let fault = c.in_ok-accepted-in-Ok.fault in
    let finds = g.M.Made.Pattern.finds in
    let means = g.M.PatternMaker.means c.args.maker.now in
    let Judged : Rules g.row.M-Made.Denot → Type 0 = λ set. IsJudged set.rules (judged set.rules is_refused c.in-Ok.rule) accepted.rules fault in
    let Meant : Rules g.row.M-Made.Denot → Type 0 = λ set. FindWhatIsMeant finds means set → FindWhatIsMeant finds means accepted in
    record {
      sound = λ all. sound-judged c.args.lines.now.classes.now c.args.progress.now.accepted.rules accepted.rules is_refused c.in-Ok.rule fault c.in-Ok.ensures.sound all
          (subst Judged c.replace-before.ensures.value c.in_ok-accepted-in-Ok.ensures.judged);
      meant = subst Meant c.replace-before.ensures.value c.in_ok-accepted-in-Ok.ensures.meant;
    }

pub returns-in_ok-fault-in-Err-clause-read : goal.returns-in_ok-fault-in-Err-clause-read
returns-in_ok-fault-in-Err-clause-read g c =
    let fault = c.in-Err.fault in
    let asked = g.M.PatternMaker.refusals c.args.maker.now in
    let before = state_of c.args.progress.now in
    let Read : RuleFault → Type 0 = λ f. IsRead (lines_frame c.args.lines.now) before c.args.text.now (refused_one asked asked) (record before { names = c.read_rule.new.bits }) (Some f) in
    subst Read (sym c.in_ok-fault-in-Err.ensures.same)
    (read-faulty (lines_frame c.args.lines.now) before c.args.text.now (refused_one asked asked) c.read_rule.new.bits fault
    (c.in-Err.ensures.meant, not-memory fault c.in_ok-fault-in-Err.ensures.read) c.in-Err.ensures.refused)
