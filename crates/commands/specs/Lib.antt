-- In the order in which to read them.
pub mod Printing
pub mod Sifting
pub mod Promises
pub mod LineByLine
