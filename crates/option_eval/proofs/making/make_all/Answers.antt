-- One turn adds what serves one option more; the maker means the
-- same after each turn, so all patterns find what it meant at first.
use Rattle.std.proofs.Common.{◌≡◌, ◌+◌, ◌++◌, ◌∷◌, [], take, map, arith, sym, ap, ◌∙◌}
use Rattle.std.proofs.lemmas.List.{take_more}
use Rattle.rule_types.specs.declared.option.Opt.{Opt}
use Rattle.option_eval.specs.Ready.{IsReady, pattern_of}
use Rattle.option_eval.specs.RuleSet.{IsMade}
use Rattle.option_eval.proofs.Chosen.{zip_push, map_push, made_same}
use Rattle.option_eval.proofs.making.make_all.Goals as goal

pub loop-option-preserved : goal.loop-option-preserved
loop-option-preserved g c =
    let options = c.args.options.now in
    let i = c.loop-option.option-index in
    let o = c.option-item.result in
    let old = c.loop-option.invariant in
    let one = c.in_ok-one.one in
    let means = g.M.PatternMaker.means c.args.maker.now in
    let more : take (i + 1) options ≡ take i options ++ o ∷ [] =
    take_more options i o (omega (arith, c.loop-option-test.true))
    ∙ ap (λ (x : Opt). take i options ++ x ∷ []) (sym c.option-item.is) in
    let pushed : c.push.new.self.items ≡ c.loop-option.made.items ++ one ∷ [] = c.in_ok-push.ensures.items in
    let found = c.in_ok-one.ensures.found in
    record {
      ready =
          rw (more, pushed)
          (zip_push (IsReady {P = g.row.M-Made.Denot}) (take i options) c.loop-option.made.items o one old.ready
          c.in_ok-one.ensures.ready);
      found =
          rw (more, pushed, map_push (pattern_of {P = g.row.M-Made.Denot}) c.loop-option.made.items one)
          (zip_push (IsMade g.M.Made.Pattern.finds means) (take i options)
          (map (pattern_of {P = g.row.M-Made.Denot}) c.loop-option.made.items) o
          (pattern_of {P = g.row.M-Made.Denot} one)
          old.found
          (made_same g.M.Made.Pattern.finds means (g.M.PatternMaker.means c.loop-option.maker) o
          (pattern_of {P = g.row.M-Made.Denot} one)
          old.same found));
      unrefused = c.in_ok-one.ensures.made_unrefused ∙ old.unrefused;
      same = λ text flags bytes. c.make_one.ensures.same_meaning text flags bytes ∙ old.same text flags bytes;
    }
