-- The definitions that the contracts of ordered_merge cite.
pub mod Greatest
pub mod Merging
