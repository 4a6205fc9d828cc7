-- Which flows are open after a capture's jobs, and what all lanes hold of them.
pub mod Open
pub mod Flows
pub mod Totals
