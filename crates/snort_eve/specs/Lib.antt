-- The definitions that the contracts of snort_eve cite.
pub mod Joins
pub mod Texts
pub mod Events
pub mod Streams
pub mod Forms
pub mod Endings
pub mod LineForms
pub mod Copies
pub mod Command
pub mod Asking
pub mod Confs
pub mod Captures
pub mod Runs
