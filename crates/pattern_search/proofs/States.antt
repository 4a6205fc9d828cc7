-- The states of a trie: their words, links, moves and rows. The contracts of `trie`, `ends`, `links`, `moves` and `rows`
-- rest on them.
pub mod Children
pub mod Filling
pub mod Growing
pub mod Linking
pub mod Moving
pub mod Rowing
pub mod Shallow
pub mod Stepping
pub mod Tries
pub mod Words
