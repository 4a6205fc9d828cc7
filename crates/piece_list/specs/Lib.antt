-- The definitions that the contracts of piece_list cite.
pub mod Held
pub mod Left
pub mod Linked
pub mod Ownership
pub mod Pieces
pub mod Rooms
pub mod Placed
