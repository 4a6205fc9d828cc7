-- Laws of the definitions of pcap_input, and lemmas that its proofs share.
pub mod Cuts
pub mod Pieces
pub mod Told
pub mod Laws
pub mod Records
pub mod Endings
pub mod Reading
pub mod Made
pub mod Sections
