-- Sets of places and what an option leads to from them: what the contracts of `absent`, `content`, `needle`, `next`, `reach`
-- and `sweep` rest on.
pub mod Asking
pub mod Contents
pub mod Looking
pub mod Occurrences
pub mod Rising
pub mod Spans
pub mod Sweeping
