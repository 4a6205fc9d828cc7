-- facts that a truth value decides
pub mod Decided
-- whether some way leads through a rule's options is decided
pub mod PayloadMatches
-- some test tells which rules match
pub mod Tells
-- an item has one list of the rules that match
pub mod AreHits
-- a rule that matches is a candidate
pub mod Candidates
-- a sound rule changes no bits but those that a session has
pub mod ChangesKnownBits
-- one rule, part by part
pub mod RuleMatches
-- the candidates that match are all rules that do
pub mod Picked
-- the visits of a rule by its place
pub mod Work
