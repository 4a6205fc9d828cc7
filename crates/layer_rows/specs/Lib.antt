-- The definitions that the contracts of layer_rows cite.
pub mod Dialogue
