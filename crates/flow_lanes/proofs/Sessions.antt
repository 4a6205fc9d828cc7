-- What a session gives: what the contracts of `side`, `session`, `entering`, `detecting` and `packet` rest on.
-- parts of bytes
pub mod PartsOf
-- the runs of a flush, cut
pub mod FlushedPayloads
-- what is appended to items
pub mod ItemsWith
-- how far sides reach
pub mod Reaches
-- steps of one side
pub mod Sides
-- a packet before which a session ended
pub mod StepOf
-- the items of a packet, step by step
pub mod ItemsOn
-- the items of a packet, tried in place
pub mod DetectsOn
-- a packet that leaves its session as it is
pub mod StaysAt
-- what is kept of a flow after one more packet
pub mod IsKeptBy
-- stream items are short
pub mod AreShort
