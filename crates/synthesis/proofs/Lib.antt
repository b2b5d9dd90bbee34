-- The parts of the argument, in the order in which they build on each other.
pub mod Unfolding
pub mod Monitors
pub mod Numberings
pub mod Tables
pub mod Quotients
pub mod Reasons
pub mod EmptyPatterns
pub mod Joins
pub mod Functions
pub mod Promises
pub mod ShortPromises
pub mod LimitPromises
pub mod PreviewPromises
pub mod AlikePromises
pub mod JoinPromises
