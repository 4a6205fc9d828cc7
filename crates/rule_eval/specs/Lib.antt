-- The definitions that the contracts of rule_eval cite.
pub mod Hits
pub mod Picking
pub mod Work
