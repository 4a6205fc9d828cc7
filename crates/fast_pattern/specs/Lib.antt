-- The definitions that the contracts of fast_pattern cite.
pub mod Blocks
pub mod Candidates
pub mod Doors
pub mod FastPattern
pub mod Grouping
pub mod Kinds
pub mod Sides
