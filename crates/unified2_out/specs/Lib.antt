-- The definitions that the contracts of unified2_out cite.
pub mod Records
pub mod Reading
pub mod Fronts
pub mod Parts
