-- What a rule can extract and what its options can cost: what the contracts of `laws` rest on.
pub mod Few
pub mod Values
pub mod Visits
