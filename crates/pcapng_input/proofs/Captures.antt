-- What the blocks of a capture give, one after another: its records, their numbers and its ending.
pub mod Moving
pub mod Nexts
pub mod Walking
pub mod Records
pub mod Numbers
pub mod Beginnings
pub mod Endings
