-- A file is accepted exactly as the encoding of a rule.
pub mod Checks
pub mod NodeBytes
pub mod Sound
pub mod Steps
pub mod FormulaBytes
pub mod PatternBytes
pub mod Encoding
pub mod Accepted
