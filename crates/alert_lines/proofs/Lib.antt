-- Laws of the definitions of alert_lines, and lemmas that its proofs share.
pub mod Prefixes
pub mod Emitting
pub mod Texts
pub mod Beside
pub mod Showing
pub mod Matching
pub mod Records
