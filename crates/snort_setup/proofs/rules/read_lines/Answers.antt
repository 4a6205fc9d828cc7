-- The lines before lead to what is there now, with those whose patterns were refused: a line
-- more goes on from there or ends the reading, and the maker means the same throughout.
use Rattle.std.proofs.Common.{List, refl, sym, subst}
use Rattle.conf_parser.specs.declared.line.Line.{Line}
use Rattle.snort_setup.specs.Lines.{lines_frame, state_of}
use Rattle.snort_setup.specs.Steps.{grown_by}
use Rattle.snort_setup.proofs.Judging.{grows-none, ready-ready}
use Rattle.snort_setup.proofs.LinesRead.{SoFar, sofar-none, made-made, onward-at, stopped-at, finished-at}
use Rattle.snort_setup.proofs.rules.read_lines.Goals as goal

pub lines-init : goal.lines-init
lines-init g c =
    let asked = g.M.PatternMaker.refusals c.args.maker.now in
    record {
      so = sofar-none (lines_frame c.args.lines.now) c.args.rules.now (state_of c.args.progress.now) (state_of c.args.progress.now) (grown_by asked asked) refl;
      ready = record { sound = λ sound. sound; meant = λ meant. meant };
      made = record { same_meaning = λ text flags bytes. refl; grows = grows-none asked asked refl };
    }

pub lines-preserved : goal.lines-preserved
lines-preserved g c =
    let frame = lines_frame c.args.lines.now in
    let start = state_of c.args.progress.now in
    let first = g.M.PatternMaker.refusals c.args.maker.now in
    let old = g.M.PatternMaker.refusals c.lines.maker in
    let new = g.M.PatternMaker.refusals c.line_end.new.maker in
    let means = g.M.PatternMaker.means c.args.maker.now in
    let mid = g.M.PatternMaker.means c.lines.maker in
    let so = subst (λ (xs : List Line). SoFar frame c.args.rules.now start (state_of c.lines.progress) xs (grown_by first old)) c.in-Some.ensures.cases.0 c.lines.invariant.so in
    record {
      so = onward-at frame c.args.rules.now start first old new (state_of c.lines.progress) (state_of c.line_end.new.progress) c.in-Some.line.now c.in-Some.after.now
          c.lines.invariant.made.grows c.line_end.ensures.only_made.grows so c.in_ok-refusal.ensures.asks c.in_ok-refusal.refusal (sym c.if-is_some.ensures) c.in_ok-refusal.ensures.gives;
      ready = ready-ready g.M.Made.Pattern.finds means mid c.args.lines.now.classes.now c.args.progress.now.accepted c.lines.progress.accepted c.line_end.new.progress.accepted
          c.lines.invariant.made.same_meaning c.lines.invariant.ready c.in_ok-refusal.ensures.ready;
      made = made-made means mid (g.M.PatternMaker.means c.line_end.new.maker) first old new c.lines.invariant.made c.line_end.ensures.only_made;
    }

pub returns-in_err-refusal-clause-only_made : goal.returns-in_err-refusal-clause-only_made
returns-in_err-refusal-clause-only_made g c =
    made-made (g.M.PatternMaker.means c.args.maker.now) (g.M.PatternMaker.means c.lines.maker) (g.M.PatternMaker.means c.line_end.new.maker) (g.M.PatternMaker.refusals c.args.maker.now)
    (g.M.PatternMaker.refusals c.lines.maker) (g.M.PatternMaker.refusals c.line_end.new.maker) c.lines.invariant.made c.line_end.ensures.only_made

pub returns-then-is_some-clause-answer : goal.returns-then-is_some-clause-answer
returns-then-is_some-clause-answer g c =
    let frame = lines_frame c.args.lines.now in
    let start = state_of c.args.progress.now in
    let first = g.M.PatternMaker.refusals c.args.maker.now in
    let old = g.M.PatternMaker.refusals c.lines.maker in
    let new = g.M.PatternMaker.refusals c.line_end.new.maker in
    let so = subst (λ (xs : List Line). SoFar frame c.args.rules.now start (state_of c.lines.progress) xs (grown_by first old)) c.in-Some.ensures.cases.0 c.lines.invariant.so in
    stopped-at frame c.args.rules.now start first old new (state_of c.lines.progress) (state_of c.line_end.new.progress) c.in-Some.line.now c.in-Some.after.now
    c.lines.invariant.made.grows c.line_end.ensures.only_made.grows so c.in_ok-refusal.ensures.asks c.in_ok-refusal.refusal (sym c.if-is_some.ensures) c.in_ok-refusal.ensures.gives

pub returns-then-is_some-clause-ready : goal.returns-then-is_some-clause-ready
returns-then-is_some-clause-ready g c =
    ready-ready g.M.Made.Pattern.finds (g.M.PatternMaker.means c.args.maker.now)
    (g.M.PatternMaker.means c.lines.maker) c.args.lines.now.classes.now c.args.progress.now.accepted c.lines.progress.accepted
    c.line_end.new.progress.accepted c.lines.invariant.made.same_meaning c.lines.invariant.ready c.in_ok-refusal.ensures.ready

pub returns-then-is_some-clause-only_made : goal.returns-then-is_some-clause-only_made
returns-then-is_some-clause-only_made g c =
    made-made (g.M.PatternMaker.means c.args.maker.now) (g.M.PatternMaker.means c.lines.maker) (g.M.PatternMaker.means c.line_end.new.maker) (g.M.PatternMaker.refusals c.args.maker.now)
    (g.M.PatternMaker.refusals c.lines.maker) (g.M.PatternMaker.refusals c.line_end.new.maker) c.lines.invariant.made c.line_end.ensures.only_made

pub returns-clause-answer : goal.returns-clause-answer
returns-clause-answer g c =
    finished-at (lines_frame c.args.lines.now) c.args.rules.now (state_of c.args.progress.now) (state_of c.lines.progress) c.lines.rest.now
    (grown_by (g.M.PatternMaker.refusals c.args.maker.now) (g.M.PatternMaker.refusals c.lines.maker)) c.in_default.ensures.cases c.lines.invariant.so
