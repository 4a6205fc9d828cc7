-- The definitions that the contracts of conf_parser cite.
pub mod Values
pub mod Options
pub mod Settings
pub mod Spots
pub mod Variables
pub mod Config
pub mod Frag3
pub mod Stream5
pub mod Events
pub mod Names
pub mod ConfLine
pub mod Lines
pub mod Reading
pub mod Loaded
pub mod Steps
pub mod Loading
pub mod Places
