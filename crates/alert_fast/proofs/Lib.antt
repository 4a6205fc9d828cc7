-- Laws of the definitions of alert_fast, and lemmas that its proofs share.
pub mod Dates
pub mod PaddedDigits
pub mod PieceLists
pub mod LineTexts
pub mod ReadBack
pub mod Telling
