-- What the grammar of lists spells and what its reader gives: what the contracts of `read`, `token`, `address_list`
-- and `port_list` rest on.
pub mod Words
pub mod Steps
pub mod Accepted
pub mod Derived
pub mod Starts
pub mod Parts
