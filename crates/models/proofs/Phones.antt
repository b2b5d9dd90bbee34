-- Phone models as models: finite, with byte codes, and with decided sets.
pub mod PhoneCodes
pub mod GreatestSets
pub mod PhoneStates
pub mod LeadingSteps
pub mod Necessities
pub mod DecidedSets
