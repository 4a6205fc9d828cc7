-- Laws of the definitions of layer_rows, and lemmas that its proofs share.
pub mod DialogueLaws
pub mod Pushed
pub mod Triable
