-- Laws of the definitions of flowbit_state, and lemmas that its proofs share.
pub mod WordLaws
