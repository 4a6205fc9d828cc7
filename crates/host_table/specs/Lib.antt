-- The definitions that the contracts of host_table cite.
pub mod Lines
pub mod HostLine
pub mod Hosts
pub mod Keys
pub mod Index
