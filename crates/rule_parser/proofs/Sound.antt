-- A rule that is read is sound, option by option.
pub mod Drafts
pub mod Values
pub mod Texts
pub mod Contents
pub mod Fields
pub mod Flags
pub mod Patterns
pub mod Bytes
pub mod Options
