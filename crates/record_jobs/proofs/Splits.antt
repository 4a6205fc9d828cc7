-- A capture that is split by pairs of addresses: each part has its items of the whole.
pub mod Flows
pub mod Ends
pub mod Jobs
pub mod Parts
pub mod Fragments
pub mod Room
pub mod Items
pub mod Heads
pub mod Closed
