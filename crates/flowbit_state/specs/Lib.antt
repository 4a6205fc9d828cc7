-- The definitions that the contracts of flowbit_state cite.
pub mod Changes
pub mod Words
