-- Captures that are made: what the contracts of `draws`, `frames`, `traffic` and `generate` rest on.
pub mod Making
pub mod Captures
pub mod Words
