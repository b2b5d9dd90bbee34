-- In the order in which to read them.
pub mod Numbers
pub mod Preparing
