-- The records that are read of a capture, and how its opening and its reading end.
pub mod Limits
pub mod Reading
pub mod Opening
pub mod Stops
pub mod Batches
pub mod Made
