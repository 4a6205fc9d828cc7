-- The definitions that the contracts of pcap_input cite.
pub mod Cut
pub mod Savefile
pub mod Reader
pub mod Pieces
pub mod Reading
pub mod Frames
pub mod Generated
