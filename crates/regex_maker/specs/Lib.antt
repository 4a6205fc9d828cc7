-- The definitions that the contracts of regex_maker cite.
pub mod Meaning
pub mod Searching
pub mod Spelled
pub mod Finding
