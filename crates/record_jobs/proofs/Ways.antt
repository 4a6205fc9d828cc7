-- Which engine an address goes by: what the contracts of `engines` rest on.
pub mod Bound
pub mod OnePlace
