-- The definitions that the contracts of header_eval cite.
pub mod Fields
