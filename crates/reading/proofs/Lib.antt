-- The parts of the argument, in the order in which they build on each other.
pub mod Basics
pub mod Measures
pub mod RecordLists
pub mod Accepting
pub mod Settling
pub mod Numbering
pub mod Functions
pub mod Refusing
pub mod Promises
