-- The definitions that the contracts of pattern_search cite.
pub mod Finding
pub mod Growing
pub mod Letters
pub mod Marking
pub mod Moves
pub mod Occurring
pub mod Outputs
pub mod Owned
pub mod Rows
pub mod Sieving
pub mod Slots
pub mod Windows
pub mod Words
