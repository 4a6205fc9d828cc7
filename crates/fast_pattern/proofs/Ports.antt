-- At which ports rules are asked for: what the contracts of `blocks`, `index`, `sides` and `doors` rest on.
pub mod Blocking
pub mod Filing
pub mod Opening
pub mod Siding
