-- Where no word is a state's with the letter, its fail does as well: the same words end there with it (`reaching-more`).
use Rattle.std.proofs.Common.{ℕ, ◌-◌, min, ap, ◌∙◌, arith}
use Rattle.pattern_search.proofs.States.Moving.{reaching-more, reached-some, reached-none}
use Rattle.pattern_search.proofs.moves.reach.Goals as goal

pub returns-then-child-ne0 : goal.returns-then-child-ne0
returns-then-child-ne0 c =
    reached-some c.args.trie.now c.args.fails.now c.args.below c.args.state c.args.letter c.loop-at.at c.found-child.result
    c.loop-at.invariant c.found-child.ensures c.if-child-ne0.true

pub loop-at-preserved : goal.loop-at-preserved
loop-at-preserved c =
    let at = c.loop-at.at in
    reaching-more c.args.trie.now c.args.fails.now c.args.state c.args.letter at c.found-child.result c.min-at.result
    (omega (arith, c.max-least.ensures)) c.loop-at.invariant c.found-child.ensures (omega arith)
    (c.min-at.ensures ∙ ap (λ (n : ℕ). min n (at - 1)) c.read.ensures)

pub returns : goal.returns
returns c = reached-none c.args.trie.now c.args.fails.now c.args.below c.args.state c.args.letter c.loop-at.at c.loop-at.invariant (λ some. omega (arith, c.max-least.ensures))
