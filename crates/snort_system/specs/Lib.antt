-- What the contract of a run over the system cites.
-- what is seen of it
pub mod Seen
