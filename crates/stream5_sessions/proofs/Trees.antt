-- Keys in a tree of numbers and in a cache: what the contracts of `flow_numbers`, `lives` and `flows` rest on.
pub mod Laws
pub mod CacheSteps
pub mod Numbered
pub mod Living
pub mod Guessed
pub mod Touched
