-- How the reading of all files goes: what the contracts of `loading` rest on.
pub mod Goings
pub mod Seeing
pub mod Opening
pub mod Finishing
pub mod Keeping
pub mod Placing
