-- In the order in which to read them. `LineParts` serves the crate's own functions alone.
pub mod Text
pub mod Runs
pub mod Lines
pub mod Positions
pub mod Promises
pub mod LineParts
