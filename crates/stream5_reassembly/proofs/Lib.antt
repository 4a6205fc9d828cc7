-- Laws of the definitions of stream5_reassembly, and lemmas that its proofs share.
pub mod Held
pub mod Shifted
pub mod Steps
