-- What the bytes of one block show, stage by stage: what the contracts of `piece`, `last` and `step` rest on.
pub mod Sizes
pub mod Taking
pub mod Stages
pub mod Closing
pub mod Begins
pub mod Openings
pub mod Heads
pub mod Reading
