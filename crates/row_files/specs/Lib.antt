-- The definitions that the contracts of row_files cite.
pub mod Appending
pub mod Stored
pub mod Numbered
