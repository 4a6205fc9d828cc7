-- What is read is sound, line by line.
pub mod Steps
pub mod Frag3
pub mod Stream5
pub mod Config
pub mod Lines
pub mod Reading
