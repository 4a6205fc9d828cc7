-- At a state of at most three letters no pattern that began before the last three bytes is still unended, so these may be
-- given back (`covers-walked`); at the end of the bytes none is.
use Rattle.std.proofs.Common.{◌≡◌, ℕ, ◌+◌, ◌-◌, ◌/◌, ◌≤◌, inl, inr, slice_index, take, drop, refl, subst, arith}
use Rattle.pattern_search.specs.Words.{word_of}
use Rattle.pattern_search.specs.Finding.{Walks}
use Rattle.pattern_search.proofs.Finding.Walking.{walks-none}
use Rattle.pattern_search.proofs.Finding.Covering.{walks-on, covers-walked}
use Rattle.pattern_search.proofs.automaton.Automaton.walk.Goals as goal

pub loop-done-init : goal.loop-done-init
loop-done-init c =
    let automaton = c.args.self.now in
    let a = c.args in
    let P : ℕ → Type 0 = λ n. Walks automaton (word_of automaton.letters (take n (drop a.from a.bytes.now))) 0 a.seen.now a.hits.now.items a.seen.now a.hits.now.items in
    let none : 0 ≡ a.from - a.from = omega arith in
    (omega arith, omega (arith, c.requires), subst P none (walks-none automaton (drop a.from a.bytes.now) a.seen.now a.hits.now.items))

pub loop-done-preserved : goal.loop-done-preserved
loop-done-preserved c =
    let a = c.args in
    let l = c.loop-done in (
      omega (arith, l.invariant.0),
      omega (arith, c.loop-done-test.true),
      walks-on a.self.now a.bytes.now a.from l.done l.at (slice_index a.self.now.letters (slice_index a.bytes.now l.done))
          c.step-entry.result a.seen.now l.seen c.note.new.seen a.hits.now.items l.hits.items c.note.new.hits.items l.invariant.0
          (omega (arith, c.loop-done-test.true)) l.invariant.2 refl c.step-entry.ensures c.in_ok-note.ensures,
    )

pub returns-then-from-self-clause-covers : goal.returns-then-from-self-clause-covers
returns-then-from-self-clause-covers c =
    let a = c.args in
    let l = c.loop-done in
    let far : a.from + 4 ≤ l.done + 1 =
    omega (arith, c.if-reach-done.true, c.max-reach.ensures, c.saturating_add.ensures, c.loop-done-test.true) in
    let walks =
    walks-on a.self.now a.bytes.now a.from l.done l.at (slice_index a.self.now.letters (slice_index a.bytes.now l.done))
    c.step-entry.result a.seen.now l.seen c.note.new.seen a.hits.now.items l.hits.items c.note.new.hits.items l.invariant.0
    (omega (arith, c.loop-done-test.true)) l.invariant.2 refl c.step-entry.ensures c.in_ok-note.ensures in
    covers-walked a.self.now a.bytes.now a.from (l.done + 1 - a.from) (l.done + 1 - 3) (c.step-entry.result / 2) a.seen.now
    c.note.new.seen a.hits.now.items c.note.new.hits.items (omega (arith, c.loop-done-test.true, l.invariant.0))
    (omega (arith, l.invariant.0))
    (inr (omega (arith, c.if-from-self.true, c.from.ensures), omega (arith, far))) walks

pub returns-clause-covers : goal.returns-clause-covers
returns-clause-covers c =
    let a = c.args in
    let l = c.loop-done in
    covers-walked a.self.now a.bytes.now a.from (l.done - a.from) l.done l.at a.seen.now l.seen a.hits.now.items l.hits.items
    (omega (arith, l.invariant.0, l.invariant.1))
    (omega (arith, l.invariant.0))
    (inl (omega (arith, l.invariant.0, l.invariant.1, c.loop-done-test.false)))
    l.invariant.2
