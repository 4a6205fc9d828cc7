-- The definitions that the contracts of frag3_core cite.
pub mod Trackers
pub mod Sound
pub mod Held
pub mod Parts
pub mod Inside
pub mod Outside
pub mod Hashed
