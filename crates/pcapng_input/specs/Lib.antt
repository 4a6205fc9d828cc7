-- The definitions that the contracts of pcapng_input cite.
pub mod Moments
pub mod Options
pub mod Blocks
pub mod Steps
pub mod Reader
pub mod Calls
pub mod Whole
pub mod Faults
pub mod Twins
