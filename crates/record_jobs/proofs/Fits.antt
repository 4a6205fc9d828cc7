-- What is read of bytes fits into what headers have room for.
pub mod Decoded
pub mod Datagrams
pub mod Jobs
