-- How much a lap can add to the sums.
pub mod LapCounts
