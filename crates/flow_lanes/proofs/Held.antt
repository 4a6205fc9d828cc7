-- What is held of streams stays within the limits of the engines.
pub mod Sides
pub mod Sessions
pub mod Lanes
