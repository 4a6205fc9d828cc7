-- The jobs of a capture are sound, and lanes may run them in order.
pub mod Knowing
pub mod Sounding
pub mod Running
pub mod Learning
