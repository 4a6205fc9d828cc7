-- The definitions that the contracts of overlap_core cite.
pub mod Segments
pub mod Overlap
pub mod Agreeing
pub mod Pieces
pub mod Runs
pub mod QueueState
pub mod Rows
pub mod Joined
pub mod Inside
