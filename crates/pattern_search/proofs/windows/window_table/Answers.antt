-- What the lent slice gives back is the whole table, since it has kept its length.
use Rattle.std.proofs.Common.{◌≡◌, ◌++◌, List, ℕ, length, take, drop, sym, ap, subst, ◌∙◌, arith}
use Rattle.std.proofs.lemmas.List.{take-append-le, take_all}
use Rattle.pattern_search.specs.Windows.{HaveWindows}
use Rattle.pattern_search.proofs.windows.window_table.Goals as goal

pub returns : goal.returns
returns c =
    let table = c.in_ok-table.table in
    let new = c.add_all_windows.new.table in
    let size : length new ≡ table.len = omega (arith, c.add_all_windows.ensures.sized, ap length c.deref_mut.ensures.value, table.ok.0) in
    let whole : take table.len (new ++ drop (length new) table.items) ≡ new =
    take-append-le table.len new (drop (length new) table.items) (omega (arith, size)) ∙ take_all table.len new (omega (arith, size)) in
    let P : List ℕ → Type 0 = λ ts. HaveWindows ts c.args.mask c.args.stride c.args.patterns.now in
    subst P (sym whole) c.add_all_windows.ensures.has
