-- Laws of the definitions of frag3_core, and lemmas that its proofs share.
pub mod Bytes
pub mod Entries
pub mod Held
pub mod Keys
pub mod Laws
pub mod Steps
pub mod KeyTests
