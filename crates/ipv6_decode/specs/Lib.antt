-- The definitions that the contracts of ipv6_decode cite.
pub mod Headers
pub mod Decoding6
pub mod Versions
pub mod Addresses
