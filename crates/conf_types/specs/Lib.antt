-- The definitions that the contracts of conf_types cite.
pub mod Sound
pub mod Classes
pub mod Defaults
