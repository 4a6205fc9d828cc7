-- Laws of the definitions of net_lists, and lemmas that its proofs share.
pub mod FirstLine
pub mod Fronts
pub mod Numbers
pub mod Cuts
pub mod Drafts
pub mod Steps
pub mod Lists
pub mod Addresses
pub mod Membership
pub mod Variables
