-- What is read of an alert's line, part by part, is what it tells.
pub mod Fronts
pub mod WholeWords
pub mod Places
pub mod Messages
pub mod Heads
pub mod Tails
pub mod EndWords
pub mod EndPairs
pub mod Protocols
pub mod Parts
pub mod Readings
