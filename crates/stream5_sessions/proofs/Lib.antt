-- Laws of the definitions of stream5_sessions, and lemmas that its proofs share.
pub mod KeyLaws
pub mod Trees
pub mod StepLaws
pub mod StayLaws
pub mod EndOrder
pub mod Liveness
pub mod Bounds
pub mod KeptValues
