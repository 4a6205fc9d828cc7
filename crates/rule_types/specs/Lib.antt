-- The definitions that the contracts of rule_types cite.
pub mod Sound
