-- Laws of the definitions of command_words, and lemmas that its proofs share.
pub mod Rules
pub mod Steps
pub mod Letters
pub mod Turns
pub mod Whole
pub mod Rows
pub mod Matched
pub mod Ids
pub mod Runs
