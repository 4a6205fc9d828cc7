-- The entry is that of the key's place: one that is occupied leaves the tree as it was (`numbers-kept`), and a vacant one
-- gives the place the number and leaves each other place as it was (`numbers-put`); without memory the tree, and so every
-- key's number, is as it was.
use Rattle.std.proofs.Common.{◌≡◌, ℕ, Some, None, Result, Ok, Err, OnErr, ap, sym, subst, ◌∙◌, rules}
use Rattle.std.specs.BTreeMap.{BTreeMap, get, IsUnchanged}
use Rattle.std.specs.BTreeMap.Entry.{entry_map_ref, entry_value, map_with_value}
use Rattle.std_collections.proofs.TreeMap.Entry.{vacant_value}
use Rattle.stream5_sessions.specs.declared.flow_numbers.TreeKey.{TreeKey}
use Rattle.stream5_sessions.specs.Trees.{tree_cmp, number_in, KeepsNumbers, Puts}
use Rattle.stream5_sessions.proofs.Trees.Laws.{numbers-kept, numbers-put}
use Rattle.stream5_sessions.proofs.flow_numbers.FlowNumbers.get_or_insert.Goals as goal

on_err : {A E : Type 0} (r : Result A E) (P : Type 0) → P → OnErr r P
on_err (Ok x) P p = tt
on_err (Err e) P p = p

pub returns-in_err-entry-clause-absent : goal.returns-in_err-entry-clause-absent
unfolding number_in
returns-in_err-entry-clause-absent c =
    on_err c.from_residual.result (number_in c.args.self.now c.args.key.now ≡ None)
    (ap (get tree_cmp c.args.self.now.tree) (sym c.of.ensures) ∙ c.in_err-entry.ensures.absent)

pub returns-in_err-entry-clause-err : goal.returns-in_err-entry-clause-err
returns-in_err-entry-clause-err c =
    on_err c.from_residual.result (KeepsNumbers c.args.self.now (record { tree = c.entry.follows.lender-at-none }))
    (numbers-kept c.args.self.now c.entry.follows.lender-at-none
    (subst (λ r. OnErr r (c.entry.follows.lender-at-none.entries ≡ c.args.self.now.tree.entries)) c.in_err-entry.was c.entry.follows.holds-at-none))

pub returns-in-Occupied-clause-value : goal.returns-in-Occupied-clause-value
unfolding number_in
returns-in-Occupied-clause-value c =
    sym c.get.ensures ∙ ap entry_value (sym c.in-Occupied.is) ∙ c.in_ok-entry.ensures.value ∙ ap (get tree_cmp c.args.self.now.tree) c.of.ensures

pub returns-in-Occupied-clause-keeps : goal.returns-in-Occupied-clause-keeps
returns-in-Occupied-clause-keeps c = λ some.
    let same = subst (λ e. IsUnchanged c.args.self.now.tree (entry_map_ref e).now) c.in-Occupied.is c.in_ok-entry.ensures.unchanged in
    subst (λ (tree : BTreeMap TreeKey ℕ). KeepsNumbers c.args.self.now (record { tree = tree })) (search rules)
    (numbers-kept c.args.self.now c.in-Occupied.entry.map.now same)

pub returns-in-Vacant-clause-value : goal.returns-in-Vacant-clause-value
unfolding number_in
returns-in-Vacant-clause-value c =
    sym (vacant_value c.in-Vacant.entry) ∙ ap entry_value (sym c.in-Vacant.is) ∙ c.in_ok-entry.ensures.value ∙ ap (get tree_cmp c.args.self.now.tree) c.of.ensures

pub returns-in-Vacant-clause-puts : goal.returns-in-Vacant-clause-puts
returns-in-Vacant-clause-puts c = λ none.
    subst (λ (tree : BTreeMap TreeKey ℕ). Puts c.args.self.now c.args.key.now (Some c.args.number) (record { tree = tree })) (search rules)
    (numbers-put c.args.self.now (map_with_value c.in_ok-entry.field-0 c.args.number) c.args.key.now c.of.result (Some c.args.number) c.of.ensures
    (c.in_ok-entry.ensures.update.0 c.args.number).0)
