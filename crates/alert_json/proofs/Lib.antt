-- Laws of the definitions of alert_json, and lemmas that its proofs share.
pub mod FlowLaws
pub mod Groups
pub mod Latin
pub mod Adding
pub mod OneLine
pub mod ReadBack
pub mod AsciiTexts
pub mod Times
pub mod Depths
pub mod Lines
pub mod LineMoments
