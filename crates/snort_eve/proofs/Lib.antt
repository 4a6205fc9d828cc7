-- Laws of the definitions of snort_eve, and lemmas that its proofs share.
pub mod Joining
pub mod FrontSteps
pub mod Pieces
pub mod Recording
pub mod LineForming
pub mod Copying
pub mod Running
pub mod FirstRecords
pub mod Named
pub mod Texting
pub mod Configured
