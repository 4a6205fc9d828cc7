-- States after extractions, and what is kept of them: what the contracts of `state_map`, `part`, `passing` and `extract`
-- rest on.
pub mod Stating
pub mod Extracting
pub mod Forgetting
pub mod Knowing
pub mod Parting
pub mod Stepping
