-- The entry that the code finds is the variable of this name, fixed or not; where it finds none, none is fixed.
use Rattle.net_lists.proofs.Variables.Entries.{is_fixed-found, is_fixed-lacking}
use Rattle.net_lists.proofs.vars.Vars.is_fixed.Goals as goal

pub returns-in-Some : goal.returns-in-Some
returns-in-Some c = rw (← c.self.view_is) (is_fixed-found c.self.inside.entries.entries c.args.name.now c.in-Some.entry.now c.in-Some.ensures.value)

pub returns-in-None : goal.returns-in-None
returns-in-None c = rw (← c.self.view_is) (is_fixed-lacking c.self.inside.entries.entries c.args.name.now c.in-None.ensures.value)
