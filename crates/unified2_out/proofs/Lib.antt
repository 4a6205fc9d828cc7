-- Laws of the definitions of unified2_out, and lemmas that its proofs share.
pub mod Numbers
pub mod Bodies
pub mod Frames
pub mod Laws
pub mod Walks
pub mod Writing
