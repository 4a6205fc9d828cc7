-- What a front does for each record: what the contracts of `content`, `adding` and `front` rest on.
pub mod Counting
pub mod Contents
pub mod Sizes
pub mod Straight
pub mod Taking
pub mod Ending
