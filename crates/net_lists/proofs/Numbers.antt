-- Numbers within bounds: what the contracts of `decimal` and `number` rest on.
pub mod Ranges
pub mod Digits
