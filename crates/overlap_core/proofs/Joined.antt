-- The bytes of pieces, joined to runs: what the contracts of `runs` rest on.
pub mod OneList
pub mod Chosen
pub mod Filling
pub mod Joining
pub mod Single
