-- Which segment has a place, and which byte is kept there.
pub mod Agreeing
pub mod Arrivals
pub mod Ends
pub mod Choosing
pub mod Covered
