-- The options so far are served, and the maker refused none of them.
use Rattle.std.proofs.Common.{◌≡◌, take, map}
use Rattle.std.specs.List.{AllZip}
use Rattle.option_eval.specs.Ready.{IsReady, pattern_of}
use Rattle.option_eval.specs.RuleSet.{IsMade, SameMeaning}
use Rattle.option_eval.proofs.making.make_all.Given as goal

abbrev pub invariant-loop-option : goal.invariant-loop-option
invariant-loop-option g l = record {
  ready : AllZip IsReady (take l.option-index l.options) l.made.items;
  found : AllZip (IsMade g.M.Made.Pattern.finds (g.M.PatternMaker.means l.fn.maker)) (take l.option-index l.options) (map pattern_of l.made.items);
  unrefused : g.M.PatternMaker.refusals l.maker ≡ g.M.PatternMaker.refusals l.fn.maker;
  same : SameMeaning (g.M.PatternMaker.means l.fn.maker) (g.M.PatternMaker.means l.maker);
}
