-- Laws of the definitions of pattern_search, and lemmas that its proofs share.
pub mod Finding
pub mod Lettering
pub mod Sieving
pub mod States
pub mod Windowing
