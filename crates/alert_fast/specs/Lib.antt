-- The definitions that the contracts of alert_fast cite.
pub mod Calendar
pub mod Pieces
pub mod Line
pub mod Fronts
pub mod Words
pub mod Told
pub mod Splits
pub mod Heads
pub mod Tails
pub mod Ends
pub mod Parts
pub mod PartsRead
pub mod LinesRead
pub mod Telling
