-- A capture that is cut after one of its records.
pub mod Savefiles
pub mod Blocks
pub mod Captures
pub mod Answers
