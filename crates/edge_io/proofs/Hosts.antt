-- What hosts do with files, real ones and those in memory, and what their calls tell and let see.
pub mod Putting
pub mod Known
pub mod Hearing
pub mod Seeing
