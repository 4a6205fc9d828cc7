-- A bit below 1024 is the bit `bit % 64` of the word that is found (`test_at`); where no word is found the number is past
-- all bits, and in no set of words (`test_past`).
use Rattle.std.proofs.Common.{rules}
use Rattle.flowbit_state.proofs.WordLaws.{test_past, test_at}
use Rattle.flowbit_state.proofs.words.BitWords.test.Goals as goal

pub returns-in-None-clause-set : goal.returns-in-None-clause-set
returns-in-None-clause-set c = test_past c.self.inside.words c.args.self.now c.args.bit c.self.view_is c.self.invariant (search rules)

pub returns-in-Some-clause-set : goal.returns-in-Some-clause-set
returns-in-Some-clause-set c = test_at c.self.inside.words c.args.self.now c.args.bit c.in-Some.word.now c.self.view_is c.self.invariant (search rules) (search rules)
