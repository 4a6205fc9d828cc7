-- Laws of the definitions of ipv6_decode, and lemmas that its proofs share.
pub mod Class
pub mod Flag
pub mod Walks
pub mod Addresses
mod Chains
