-- A name has the value of the entry that the code finds for it, and none where it finds no entry.
use Rattle.net_lists.proofs.Variables.Entries.{value_of-found, value_of-lacking}
use Rattle.net_lists.proofs.vars.Vars.value.Goals as goal

pub returns-in-Some : goal.returns-in-Some
returns-in-Some c = rw (← c.self.view_is, c.as_slice.ensures.value) (value_of-found c.self.inside.entries.entries c.args.name.now c.in-Some.entry.now c.in-Some.ensures.value)

pub returns-in-None : goal.returns-in-None
returns-in-None c = rw (← c.self.view_is) (value_of-lacking c.self.inside.entries.entries c.args.name.now c.in-None.ensures.value)
