-- Laws of the definitions of event_filters, and lemmas that its proofs share.
pub mod KeyTests
pub mod Numbers
pub mod Intervals
pub mod Stages
pub mod Tallies
pub mod Running
pub mod Queues
pub mod Given
pub mod Unmatched
