-- A suppressed event counts nowhere, one that its own filter holds back
-- doesn't reach the global one, and one that passes both is appended.
use Rattle.std.proofs.Common.{ℕ, List, [], ◌∷◌, ◌++◌, true, false, sym, ap, ◌∙◌}
use Rattle.std.proofs.lemmas.List.{append-nil}
use Rattle.event_filters.specs.Runs.{lines_of}
use Rattle.event_filters.proofs.Running.{state_of, Keeps-suppressed, Keeps-dropped, Keeps-passed}
use Rattle.event_filters.proofs.filtering.keep.Goals as goal

pub returns-then-is_suppressed-clause-keeps : goal.returns-then-is_suppressed-clause-keeps
returns-then-is_suppressed-clause-keeps c =
    Keeps-suppressed (lines_of c.args.lines) c.args.head.now
    (state_of c.args.own.now.entries c.args.global.now.entries c.args.out.now.items)
    c.args.event
    (sym c.is_suppressed.ensures ∙ c.if-is_suppressed.true)

pub returns-then-not-lets_through-clause-keeps : goal.returns-then-not-lets_through-clause-keeps
returns-then-not-lets_through-clause-keeps c =
    Keeps-dropped (lines_of c.args.lines) c.args.head.now c.args.event (sym c.is_suppressed.ensures ∙ c.if-is_suppressed.false)
    c.args.own.now.entries c.lets_through.new.windows.entries c.args.global.now.entries c.args.out.now.items
    (sym c.if-not-lets_through.true ∙ rw c.event_count-count.ensures at c.lets_through.ensures.answer) (rw c.event_count-count.ensures at c.lets_through.ensures.after)

pub returns-then-not-lets_through-2-clause-keeps : goal.returns-then-not-lets_through-2-clause-keeps
returns-then-not-lets_through-2-clause-keeps c =
    Keeps-passed (lines_of c.args.lines) c.args.head.now c.args.event (sym c.is_suppressed.ensures ∙ c.if-is_suppressed.false)
    c.args.own.now.entries c.lets_through.new.windows.entries c.args.global.now.entries c.lets_through-2.new.windows.entries c.args.out.now.items c.args.out.now.items false
    (sym c.if-not-lets_through.false ∙ rw c.event_count-count.ensures at c.lets_through.ensures.answer) (rw c.event_count-count.ensures at c.lets_through.ensures.after)
    (sym c.if-not-lets_through-2.true ∙ rw c.event_count-count-2.ensures at c.lets_through-2.ensures.answer) (rw c.event_count-count-2.ensures at c.lets_through-2.ensures.after)
    (sym (append-nil c.args.out.now.items))

pub returns-clause-keeps : goal.returns-clause-keeps
returns-clause-keeps c =
    Keeps-passed (lines_of c.args.lines) c.args.head.now c.args.event (sym c.is_suppressed.ensures ∙ c.if-is_suppressed.false)
    c.args.own.now.entries c.lets_through.new.windows.entries c.args.global.now.entries c.lets_through-2.new.windows.entries c.args.out.now.items c.push.new.out.items true
    (sym c.if-not-lets_through.false ∙ rw c.event_count-count.ensures at c.lets_through.ensures.answer) (rw c.event_count-count.ensures at c.lets_through.ensures.after)
    (sym c.if-not-lets_through-2.false ∙ rw c.event_count-count-2.ensures at c.lets_through-2.ensures.answer) (rw c.event_count-count-2.ensures at c.lets_through-2.ensures.after)
    c.push.ensures.items
