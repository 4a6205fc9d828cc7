-- Laws of the definitions of fast_pattern, and lemmas that its proofs share.
pub mod Candidates
pub mod Ports
