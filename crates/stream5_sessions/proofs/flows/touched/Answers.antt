-- A guess that finds a key puts it first (`promoted-some`), as a touch of a key that lives does.
use Rattle.std.proofs.Common.{ℕ, List, Option, ap, ◌∙◌, sym}
use Rattle.stream5_sessions.specs.declared.key.Key.{Key}
use Rattle.stream5_sessions.specs.Caches.{kept_by}
use Rattle.stream5_sessions.specs.Indexed.{lives_with}
use Rattle.stream5_sessions.proofs.Trees.CacheSteps.{promoted-some}
use Rattle.stream5_sessions.proofs.flows.touched.Goals as goal

pub returns-in-Some-clause-after : goal.returns-in-Some-clause-after
returns-in-Some-clause-after c =
    let lives = c.args.lives.now in
    c.in-Some.ensures.after
    ∙ ap (λ (es : List (Key × ℕ)). lives_with es lives.cap) (promoted-some c.args.key.now c.in-Some.flow lives.entries c.in-Some.ensures.value)
    ∙ ap (λ (o : Option ℕ). lives_with (kept_by lives.entries lives.cap c.args.next c.args.key.now o) lives.cap) (sym c.in-Some.ensures.value)
