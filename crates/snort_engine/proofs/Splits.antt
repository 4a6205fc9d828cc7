-- A capture that is split by pairs of addresses: each part shows its events of the whole.
pub mod Filters
pub mod Captures
pub mod Closed
