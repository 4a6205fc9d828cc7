-- What the contracts of alerts cite, from an item's events to the bytes that reach the sink.
-- answers beside what they come from
pub mod Beside
-- the events of items, one by one
pub mod Events
-- the texts of alerts, one after another
pub mod Lines
-- an alert as Unified2 records
pub mod Unified2
-- the lines of a Unified2 file
pub mod RecordLines
-- a part of a text that was written
pub mod Written
-- texts on their way to the sink
pub mod Gathering
-- items on their way to lines
pub mod Showing
-- the matches of jobs
pub mod Matching
-- which record each job was made of
pub mod Sourcing
