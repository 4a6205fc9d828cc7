-- Laws of the definitions of edge_io, and lemmas that its proofs share.
pub mod Addresses
pub mod Along
pub mod AlongClasses
pub mod Bytes
pub mod Told
pub mod Hosts
pub mod Places
pub mod Folding
pub mod Words
pub mod Walks
