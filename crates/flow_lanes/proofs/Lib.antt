-- Laws of the definitions of flow_lanes, and lemmas that its proofs share.
pub mod Course
pub mod Open
pub mod ItemHits
pub mod Sessions
pub mod Jobs
pub mod Heads
pub mod Fits
pub mod Between
pub mod Held
pub mod Engines
