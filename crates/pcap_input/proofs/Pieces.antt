-- What the inner steps of the reader show of the bytes: what the contracts of `fill` and `reader` rest on.
pub mod Filling
pub mod Heads
pub mod Steps
pub mod Opened
