-- What the steps of the code do, from the words to the last line. None of it is part of the theorem's statement.
-- what is known before a capture is opened
pub mod Preparing
-- where a capture comes from
pub mod Sources
-- a capture that is made, as a host
pub mod MadeCapture
-- what is seen of the host
pub mod Seen
-- what a reader stands for, and what reading knows
pub mod Reader
-- reading a batch of records
pub mod Batch
-- the showing of a capture, batch by batch
pub mod Showing
-- records on their way to lines
pub mod Detecting
-- which record each job was made of
pub mod Sourcing
-- what ends a run, as a message and a status
pub mod Stop
-- what is told on the error sink
pub mod Reporting
-- what the counts of faults say of how work on a capture ended
pub mod Causes
-- how an outcome ends the run of its course
pub mod Ended
