-- How a run follows its course, what it tells, and which runs the headline refuses.
pub mod Quiet
pub mod Finishing
pub mod Reported
pub mod Runs
pub mod Seeing
pub mod Refuted
