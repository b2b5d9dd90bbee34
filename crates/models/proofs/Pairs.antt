-- The search over pairs of a state and an equation.
pub mod NeverDropping
pub mod WorklistLaws
pub mod Leading
pub mod LinkLaws
pub mod Expanding
pub mod Exploration
