-- The definitions that the contracts of packet_decode cite.
pub mod Checksum
pub mod Versions
pub mod Decoding
