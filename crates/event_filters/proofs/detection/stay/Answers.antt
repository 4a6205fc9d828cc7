-- What `lets_through` answers of a match, and the windows that it
-- leaves, are a run over one place, gathered if it is let through.
use Rattle.std.proofs.Common.{ℕ, List, [], ◌∷◌, ◌++◌, true, false, sym, ap, ◌∙◌}
use Rattle.std.proofs.lemmas.List.{append-nil}
use Rattle.event_filters.proofs.Running.{Stays-one}
use Rattle.event_filters.proofs.detection.stay.Goals as goal

pub returns-then-not-lets_through-clause-stays : goal.returns-then-not-lets_through-clause-stays
returns-then-not-lets_through-clause-stays c =
    let answer = sym c.if-not-lets_through.true ∙ rw c.match_count.ensures at c.lets_through.ensures.answer in
    Stays-one c.args.rules.now c.args.head.now c.args.place c.args.windows.now.entries c.lets_through.new.windows.entries c.args.staying.now.items c.args.staying.now.items false
    answer (rw c.match_count.ensures at c.lets_through.ensures.after) (sym (append-nil c.args.staying.now.items))

pub returns-clause-stays : goal.returns-clause-stays
returns-clause-stays c =
    let answer = sym c.if-not-lets_through.false ∙ rw c.match_count.ensures at c.lets_through.ensures.answer in
    Stays-one c.args.rules.now c.args.head.now c.args.place c.args.windows.now.entries c.lets_through.new.windows.entries c.args.staying.now.items c.push.new.out.items true
    answer (rw c.match_count.ensures at c.lets_through.ensures.after) c.push.ensures.items
