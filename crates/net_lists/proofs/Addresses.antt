-- Groups and prefixes of addresses: what the contracts of `address6` and `network` rest on.
pub mod HexGroups
pub mod Prefixes
