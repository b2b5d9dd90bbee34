-- Patterns with nothing in them: what stands after one has no part in violation, nor in the equations but by the numbers of nodes.
pub mod AlikeLaws
pub mod Differing
pub mod Places
pub mod Tables
pub mod Twins
pub mod OnlyTwins
pub mod TwinEquations
pub mod SameTables
pub mod CountingAlike
pub mod Explaining
