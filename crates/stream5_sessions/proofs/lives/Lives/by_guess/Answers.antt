-- An entry with the key and the guess has the number that the tree has of the key, so it is the key's own
-- (`by_guess-value`); without one nothing moves (`by_guess-after`).
use Rattle.std.proofs.Common.{ℕ, sym, subst, ◌∙◌}
use Rattle.lru.specs.LruCache.{LruCache}
use Rattle.stream5_sessions.specs.declared.lives.NumberedKey.{NumberedKey}
use Rattle.stream5_sessions.specs.Indexed.{IsIndexed}
use Rattle.stream5_sessions.proofs.Trees.Guessed.{indexed-guessed, by_guess-value, by_guess-after}
use Rattle.stream5_sessions.proofs.lives.Lives.by_guess.Goals as goal

pub invariant_of-self : goal.invariant_of-self
invariant_of-self c =
    subst (λ (x : LruCache NumberedKey ℕ). IsIndexed c.self.inside.numbers x.entries) (sym c.get.follows.holds-at-none)
    (indexed-guessed c.self.inside.numbers c.args.key.now c.in_ok-guess.guess c.self.inside.cache c.self.invariant)

pub returns-clause-value : goal.returns-clause-value
returns-clause-value c =
    by_guess-value c.self.inside.numbers c.args.key.now c.in_ok-guess.guess c.self.inside.cache c.self.invariant c.args.self.now c.self.view_is c.copied.result
    (c.copied.ensures ∙ c.get.ensures.value)

pub returns-clause-after : goal.returns-clause-after
returns-clause-after c =
    by_guess-after c.self.inside.numbers c.args.key.now c.in_ok-guess.guess c.self.inside.cache c.self.invariant c.args.self.now c.self.view_is c.copied.result _
    (c.copied.ensures ∙ c.get.ensures.value) c.get.follows.holds-at-none
