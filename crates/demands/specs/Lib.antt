-- In the order in which to read them.
pub mod Outcomes
pub mod Refusals
pub mod Demands
