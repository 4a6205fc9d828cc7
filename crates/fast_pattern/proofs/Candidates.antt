-- Fast patterns, and the rules that are tried on an item: what the contracts of `choice` and `groups` rest on.
pub mod Choosing
pub mod Needing
pub mod Ordering
pub mod Selecting
pub mod Sizes
