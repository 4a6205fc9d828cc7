-- The definitions that the contracts of stream5_sessions cite.
pub mod Keys
pub mod Liveness
pub mod Caches
pub mod Trees
pub mod Indexed
pub mod Phases
pub mod Staying
