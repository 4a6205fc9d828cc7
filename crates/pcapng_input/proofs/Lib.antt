-- Laws of the definitions of pcapng_input, and lemmas that its proofs share.
pub mod Ticks
pub mod Blocks
pub mod OptionLists
pub mod Captures
pub mod Calls
pub mod Held
pub mod Savefiles
pub mod Twins
