-- Laws of the definitions of host_table, and lemmas that its proofs share.
pub mod Networks
pub mod Places
pub mod Longest
pub mod Indexed
pub mod Descent
pub mod Turns
