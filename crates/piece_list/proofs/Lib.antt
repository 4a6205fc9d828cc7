-- Laws of the definitions of piece_list, and lemmas that its proofs share.
pub mod Apart
pub mod Blocks
pub mod Crosses
pub mod Memory
pub mod Places
pub mod Sharing
pub mod Splits
pub mod Moving
