-- What is written under `--unified2` fits, and can be read back.
pub mod Savefiles
pub mod Blocks
pub mod Records
pub mod Items
pub mod ReadBack
