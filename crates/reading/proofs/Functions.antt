-- What the proofs of the functions use.
pub mod Scopes
pub mod Stores
pub mod Parts
pub mod Heads
pub mod Ways
