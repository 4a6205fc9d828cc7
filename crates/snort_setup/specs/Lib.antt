-- The definitions that the contracts of snort_setup cite.
pub mod Words
pub mod Texts
pub mod Rules
pub mod Setup
pub mod Answers
pub mod Pieces
pub mod Stages
pub mod Numbers
pub mod Steps
pub mod Lines
pub mod Whole
pub mod SkippedLines
