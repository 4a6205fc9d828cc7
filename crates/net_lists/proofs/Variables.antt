-- What variables stand for: what the contracts of `vars` rest on.
pub mod Entries
pub mod Pieces
pub mod Appended
