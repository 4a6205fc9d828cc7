-- What the contract of a run cites: the theorem first, and what it is made of, from the whole to its parts.
-- the theorem on a run: its parts, its causes and its laws
pub mod Headline
-- what a run answers: alert bytes, error bytes and status
pub mod Answer
-- how a run ends, as its answer or cut short
pub mod Ending
-- how far is read ahead of what is written
pub mod ReadAhead
-- what the words and files say is to be done
pub mod Course
-- the records of a capture's bytes, and how they end
pub mod Records
-- a capture cut after one of its records
pub mod CutCaptures
-- what is shown of records, stage by stage
pub mod Trace
-- the lines of records, and how they follow one another
pub mod Lines
-- the records under `--unified2`, and what lets them be read back
pub mod ReadBack
-- what is counted of a capture
pub mod Counts
-- what is seen of the host, the sinks and the maker
pub mod Outside
-- the texts that end a run
pub mod Messages
-- the exit statuses
pub mod Status
-- what the steps of the code do, which are private
pub mod Steps
-- that there is a course
pub mod SomeCourse
-- a part of a capture
pub mod SplitCaptures
