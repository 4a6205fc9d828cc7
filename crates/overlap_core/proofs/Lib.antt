-- Laws of the definitions of overlap_core, and lemmas that its proofs share.
pub mod Segments
pub mod Rows
pub mod Joined
mod Walks
pub mod Few
