-- What model files say: their records, bytes, fronts and faults.
pub mod StepLaws
pub mod RecordChecks
pub mod StepBytes
pub mod FileWays
pub mod Encoding
pub mod Settled
pub mod ModelFronts
pub mod FileFaults
pub mod ReadModels
