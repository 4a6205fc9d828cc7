-- Laws of the definitions of regex_maker, and lemmas that its proofs share.
pub mod Crosses
pub mod Sieves
pub mod Spans
