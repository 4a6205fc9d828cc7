-- What is in a list: what the contracts of `member`, `compact` and of both `contains` rest on.
pub mod Listed
pub mod Compacted
pub mod Ports
