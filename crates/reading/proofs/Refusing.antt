-- A file is refused exactly where a clause of `Fault` has it so.
pub mod Contexts
pub mod Records
pub mod Beginnings
pub mod LeftToRight
pub mod ReadTo
pub mod StandingRecords
pub mod FaultsFound
pub mod ReachedPlaces
pub mod OneFault
pub mod FaultsRefused
pub mod FaultNumbers
pub mod PatternFaults
