-- Which flows live, which a touch ends, and how many there are.
pub mod Recent
pub mod Protocols
pub mod Apart
pub mod Eviction
pub mod Rising
pub mod Numbers
pub mod NoTouch
pub mod Lasting
