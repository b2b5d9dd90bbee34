-- In the order in which to read them.
pub mod Model
pub mod Promises
