-- Walks and satisfaction first, then models behind a monitor.
pub mod Walks
pub mod SatisfactionLaws
pub mod DecidedSatisfaction
pub mod BisimulationLaws
pub mod QuietModels
pub mod Passing
pub mod Responses
pub mod Suppressing
pub mod Enforcing
pub mod MonitoredAlike
pub mod Promises
