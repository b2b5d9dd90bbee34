-- What the contracts cite besides the definitions of the layers, and what the crate promises.
pub mod Results
pub mod Promises
