-- Laws of the definitions of option_eval, and lemmas that its proofs share.
pub mod Sets
pub mod Chosen
pub mod Digits
pub mod Extractions
pub mod Walks
pub mod Costs
