-- The definitions that the contracts of option_eval cite.
pub mod Numbers
pub mod Places
pub mod RuleSet
pub mod Ranges
pub mod Ready
pub mod Sets
pub mod Kinds
pub mod Next
pub mod Walks
pub mod Values
pub mod Trying
pub mod Kept
pub mod States
pub mod Absent
pub mod Extractions
pub mod Known
