-- Laws of the definitions of snort_setup, and lemmas that its proofs share.
pub mod Told
pub mod Numbered
pub mod Judging
pub mod Stepping
pub mod LinesRead
pub mod One
pub mod Wholes
pub mod Seeing
pub mod Few
pub mod Configuring
pub mod SkippedLines
