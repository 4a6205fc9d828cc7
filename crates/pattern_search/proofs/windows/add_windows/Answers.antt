-- Setting a slot clears none, so the windows before stay in the table, and the next one's slot is set by the call itself.
use Rattle.std.proofs.Common.{◌≡◌, ℕ, ap, ◌∙◌, arith, ⊎_elim}
use Rattle.std.proofs.lemmas.Bool.{cases_lt}
use Rattle.pattern_search.specs.Slots.{slot_bit}
use Rattle.pattern_search.specs.Windows.{window_at, slot_of}
use Rattle.pattern_search.proofs.Windowing.{keeps-none, keeps-trans}
use Rattle.pattern_search.proofs.windows.add_windows.Goals as goal

pub loop-offset-init : goal.loop-offset-init
loop-offset-init c = (keeps-none c.args.table.now, λ k h. absurd (omega arith))

pub returns-clause-keeps : goal.returns-clause-keeps
returns-clause-keeps c = c.loop-offset.invariant.0

pub returns-clause-has : goal.returns-clause-has
returns-clause-has c = record { has = λ offset h k. c.loop-offset.invariant.1 offset (omega (arith, c.loop-offset-test.false)) }

pub loop-offset-preserved : goal.loop-offset-preserved
loop-offset-preserved c =
    let a = c.args in
    let l = c.loop-offset in
    let sets = c.set_slot.ensures in
    let slot_is : c.slot.result ≡ slot_of (window_at a.pattern.now l.offset) a.mask = c.slot.ensures.is ∙ ap (λ (w : ℕ). slot_of w a.mask) c.pattern_window.ensures in (
      keeps-trans a.table.now l.table c.set_slot.new.table l.invariant.0 sets.keeps,
      λ k h. ⊎_elim
          (λ before. sets.keeps.kept (slot_of (window_at a.pattern.now k) a.mask) (l.invariant.1 k before))
          (λ here.
          let e : k ≡ l.offset = omega arith in
          omega (arith, sets.own, ap (slot_bit c.set_slot.new.table) slot_is, ap (λ (n : ℕ). slot_bit c.set_slot.new.table (slot_of (window_at a.pattern.now n) a.mask)) e))
          (cases_lt k l.offset),
    )
