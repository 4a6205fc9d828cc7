-- Words have a course, whatever files there are, and the ways of Unified2 files within it.
pub mod FileWays
pub mod Loaded
pub mod SomeFileWays
pub mod SomeSetups
pub mod SomeCourses
