-- How the showing of a capture follows its answer: what the contracts of `show` and `capture` rest on.
pub mod Shown
pub mod Captures
pub mod MadeCaptures
