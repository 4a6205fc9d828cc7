-- Laws of the definitions of ordered_merge, and lemmas that its proofs share.
pub mod Ends
pub mod Falling
pub mod Finding
pub mod Numbers
pub mod Parts
