-- The first 257 bytes settle what a file says.
pub mod Agreement
pub mod Prefix
