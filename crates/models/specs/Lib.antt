-- In the order in which to read them. `Readings`, `Loading`, `Exploring`, `Searching` and `Relating` serve the crate's own functions alone.
pub mod Phone
pub mod Faults
pub mod Judging
pub mod Promises
pub mod Pairs
pub mod PairFaults
pub mod MatchPromises
pub mod Readings
pub mod Loading
pub mod Exploring
pub mod Searching
pub mod Relating
