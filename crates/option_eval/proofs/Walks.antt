-- Ways through a rule's options, one option at a time: what the contracts of `leads` and `walk` rest on.
pub mod Staying
pub mod Leading
pub mod Walking
