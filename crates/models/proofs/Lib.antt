-- The parts of the argument, in the order in which they build on each other.
pub mod Files
pub mod Phones
pub mod Pairs
pub mod Judgments
pub mod Matchings
pub mod Promises
pub mod MatchPromises
