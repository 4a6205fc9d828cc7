-- What a walk of an automaton finds: what the contracts of `automaton` and `seen` rest on.
pub mod Covering
pub mod Hitting
pub mod Making
pub mod Marking
pub mod Occurring
pub mod Telling
pub mod Walking
