-- The search for equations, and the order in which it finds them.
pub mod Indices
pub mod Tabulating
pub mod Finding
pub mod FindingOrder
pub mod Numbering
