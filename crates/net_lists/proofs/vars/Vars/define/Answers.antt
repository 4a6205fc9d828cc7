-- The code's insertion of an entry is the definition of the variable, as none of this name is fixed.
use Rattle.std.proofs.Common.{sym, ◌∙◌}
use Rattle.net_lists.proofs.Variables.Entries.{from_entries-insert}
use Rattle.net_lists.proofs.vars.Vars.define.Goals as goal

pub returns-clause-defined : goal.returns-clause-defined
returns-clause-defined c =
    let inserted =
    from_entries-insert c.self.inside.entries.entries c.insert.new.self.entries c.in_ok-name.name
    (record { value = c.in_ok-value.value; fixed = c.args.fixed })
    c.in_ok-insert.ensures.entries in
    let loose = sym c.is_fixed.ensures ∙ c.if-is_fixed.false in
    rw (loose, ← c.self.view_is, ← c.in_ok-name.ensures.items, ← c.in_ok-value.ensures.items) inserted
