-- Items with the rules that match them: what the contracts of `tally` and `detecting` rest on.
-- what is told of items
pub mod Told
-- items of one session, one after another
pub mod Tried
