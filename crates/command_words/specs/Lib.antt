-- The definitions that the contracts of command_words cite.
pub mod Table
pub mod Uses
pub mod CommandLine
pub mod Told
pub mod Clap
