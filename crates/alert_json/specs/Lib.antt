-- The definitions that the contracts of alert_json cite.
pub mod Facts
pub mod Texts
pub mod Stamps
pub mod FlowNumbers
pub mod Value
pub mod Reading
pub mod Tokens
pub mod LineEvents
pub mod LineMoments
pub mod LineYears
pub mod LineWalks
