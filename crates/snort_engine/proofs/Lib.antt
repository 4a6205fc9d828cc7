-- Laws of the definitions of snort_engine, and lemmas that its proofs share.
pub mod Prefixes
pub mod Records
pub mod Lines
pub mod Cuts
pub mod Headline
pub mod Showing
pub mod Courses
pub mod Fits
pub mod Preparing
pub mod Splits
