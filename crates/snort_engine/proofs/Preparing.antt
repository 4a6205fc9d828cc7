-- What is known before a capture is opened: what the contracts of `prepare` rest on.
pub mod Named
pub mod Prepared
