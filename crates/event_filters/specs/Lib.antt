-- The definitions that the contracts of event_filters cite.
pub mod Keys
pub mod Counting
pub mod Queue
pub mod Events
pub mod Windows
pub mod Counts
pub mod Runs
pub mod Filtering
