-- A key that has a number in the tree is kept with it, so looking up both is looking up the key (`living-after`); one that
-- has none isn't kept, so its number and its entry are added alike, and the evicted key leaves both (`begun-indexed`), or,
-- without memory for the entry, its number is taken back (`undone-indexed`).
use Rattle.std.proofs.Common.{◌≡◌, ℕ, None, Some, Option, IsSome, IsOk, refl, sym, ap, subst, ◌∙◌}
use Rattle.std.specs.Map.{lookup}
use Rattle.stream5_sessions.specs.Keys.{same_key}
use Rattle.stream5_sessions.proofs.Trees.Touched.{again, living-value, living-after, living-indexed, begun-value, begun-after, begun-indexed, undone-indexed, unkept}
use Rattle.stream5_sessions.proofs.lives.Lives.by_tree.Goals as goal

-- a key that isn't kept asks nothing
unasked : (kept : Option ℕ) (P : Type 0) → kept ≡ None → IsSome kept → P
unasked kept P none some = cc

pub returns-in_err-number-clause-known : goal.returns-in_err-number-clause-known
returns-in_err-number-clause-known c =
    unasked (lookup (same_key c.args.key.now) c.args.self.now.entries) (IsOk c.from_residual.result)
    (unkept c.self.inside.numbers c.args.key.now c.self.inside.cache c.self.invariant c.args.self.now c.self.view_is c.in_err-number.ensures.absent)

pub invariant_of-self-in-Some : goal.invariant_of-self-in-Some
invariant_of-self-in-Some c =
    living-indexed c.self.inside.numbers c.args.key.now c.self.inside.cache c.self.invariant c.args.self.now c.self.view_is
    c.in-Some.number (sym c.in_ok-number.ensures.value ∙ c.in-Some.is) c.args.next c.get_or_insert.new.self _
    (c.in_ok-number.ensures.keeps (subst (λ (o : Option ℕ). IsSome o) (sym c.in-Some.is) refl)) c.get-in-Some.follows.holds-at-none

pub returns-in-Some-clause-value : goal.returns-in-Some-clause-value
returns-in-Some-clause-value c =
    ap again c.unwrap_or.ensures
    ∙ living-value c.self.inside.numbers c.args.key.now c.self.inside.cache c.self.invariant c.args.self.now c.self.view_is
    c.in-Some.number (sym c.in_ok-number.ensures.value ∙ c.in-Some.is) c.args.next c.copied-flow.result (c.copied-flow.ensures ∙ c.get-in-Some.ensures.value)

pub returns-in-Some-clause-after : goal.returns-in-Some-clause-after
returns-in-Some-clause-after c =
    living-after c.self.inside.numbers c.args.key.now c.self.inside.cache c.self.invariant c.args.self.now c.self.view_is
    c.in-Some.number (sym c.in_ok-number.ensures.value ∙ c.in-Some.is) c.args.next _ c.get-in-Some.follows.holds-at-none

pub invariant_of-self-in-Ok : goal.invariant_of-self-in-Ok
invariant_of-self-in-Ok c =
    begun-indexed c.self.inside.numbers c.args.key.now c.self.inside.cache c.self.invariant c.args.self.now c.self.view_is
    (sym c.in_ok-number.ensures.value ∙ c.in-None.is) c.args.next c.get_or_insert.new.self c.forget.new.numbers c.push.new.self c.in-Ok.evicted
    (c.in_ok-number.ensures.puts c.in-None.is) c.len.ensures.valid.1 c.len.ensures.valid.2 c.in-Ok.ensures.old c.in-Ok.ensures.entries c.forget.ensures.gone

pub returns-in-Ok-clause-value : goal.returns-in-Ok-clause-value
returns-in-Ok-clause-value c =
    begun-value c.self.inside.numbers c.args.key.now c.self.inside.cache c.self.invariant c.args.self.now c.self.view_is
    (sym c.in_ok-number.ensures.value ∙ c.in-None.is) c.args.next c.in-Ok.evicted c.forget.result c.in-Ok.ensures.old c.forget.ensures.flow

pub returns-in-Ok-clause-after : goal.returns-in-Ok-clause-after
returns-in-Ok-clause-after c =
    begun-after c.self.inside.numbers c.args.key.now c.self.inside.cache c.self.invariant c.args.self.now c.self.view_is
    (sym c.in_ok-number.ensures.value ∙ c.in-None.is) c.args.next c.push.new.self c.in-Ok.ensures.entries

pub invariant_of-self-in-Err : goal.invariant_of-self-in-Err
invariant_of-self-in-Err c =
    undone-indexed c.self.inside.numbers c.args.key.now c.self.inside.cache c.self.invariant c.args.self.now c.self.view_is
    (sym c.in_ok-number.ensures.value ∙ c.in-None.is) c.args.next c.get_or_insert.new.self c.remove.new.self c.push.new.self
    (c.in_ok-number.ensures.puts c.in-None.is) c.remove.ensures c.in-Err.ensures.err

pub returns-in-Err-clause-known : goal.returns-in-Err-clause-known
returns-in-Err-clause-known c =
    unasked (lookup (same_key c.args.key.now) c.args.self.now.entries) _
    (unkept c.self.inside.numbers c.args.key.now c.self.inside.cache c.self.invariant c.args.self.now c.self.view_is
    (sym c.in_ok-number.ensures.value ∙ c.in-None.is))
