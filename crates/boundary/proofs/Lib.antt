-- That no refusal has the number 0, what a kept scan is answered by, and the promises.
pub mod Refusals
pub mod KeptValue
pub mod Told
pub mod Promises
