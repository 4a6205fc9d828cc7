-- Laws of the definitions of conf_parser, and lemmas that its proofs share.
pub mod ListKinds
pub mod StreamParts
pub mod Pairs
pub mod SettingSteps
pub mod Joining
pub mod Included
pub mod LineSteps
pub mod Readings
pub mod Sound
