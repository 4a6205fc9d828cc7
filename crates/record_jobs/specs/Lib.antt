-- The definitions that the contracts of record_jobs cite.
pub mod Way
pub mod OneWay
pub mod Packets
pub mod Addresses
pub mod Touches
pub mod Jobs
pub mod Counts
pub mod Ready
pub mod Fronts
pub mod Steps
pub mod Inside
pub mod Fitting
pub mod Splitting
pub mod Holding
