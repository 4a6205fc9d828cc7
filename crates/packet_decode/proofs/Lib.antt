-- Laws of the definitions of packet_decode, and lemmas that its proofs share.
pub mod Sums
pub mod Flags
pub mod Parts
mod Carries
