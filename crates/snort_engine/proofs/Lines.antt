-- From records to lines: what the contracts of `detect` rest on.
pub mod Laws
pub mod Learning
pub mod Sourcing
pub mod Detecting
