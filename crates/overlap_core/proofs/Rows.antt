-- Pieces in a row, and segments that are laid over them: what the contracts of `row` and `room` rest on.
pub mod AtEnd
pub mod Laying
pub mod Overlaying
pub mod Recut
pub mod Places
pub mod Telling
