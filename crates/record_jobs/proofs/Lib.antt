-- Laws of the definitions of record_jobs, and lemmas that its proofs share.
pub mod Ways
pub mod Growth
pub mod Fronts
pub mod NoRecords
pub mod Ready
pub mod Held
pub mod Addresses
pub mod Fits
pub mod Splits
