-- A child that is found has the word already (`has-child`); one that is added is the last word, and no word is longer, so
-- words keep the order of their lengths (`adds-child`).
use Rattle.std.proofs.Common.{arith}
use Rattle.pattern_search.proofs.States.Tries.{has-child, adds-child}
use Rattle.pattern_search.proofs.trie.Trie.child.Goals as goal

pub returns-then-child-ne0 : goal.returns-then-child-ne0
returns-then-child-ne0 c = has-child c.args.self.now c.args.state c.args.letter c.found-child.result c.requires.trie c.requires.state c.found-child.ensures (omega arith)

pub returns : goal.returns
returns c =
    let said = c.in_ok-child.ensures in
    adds-child c.args.self.now c.grow.new.self c.args.state c.args.letter c.found-child.result c.in_ok-child.child c.requires.trie
    c.requires.state c.requires.letter c.found-child.ensures (omega arith) said.state said.steps said.firsts said.width said.few
