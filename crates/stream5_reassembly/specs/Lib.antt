-- The definitions that the contracts of stream5_reassembly cite.
pub mod Sequence
pub mod Segments
pub mod Extents
pub mod Counted
pub mod Inside
