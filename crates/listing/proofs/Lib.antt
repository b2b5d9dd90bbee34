-- Numbers and lines as text first, then the runs of a row, then the lines at all positions, over tables with the same rows, and the promises.
pub mod Decimals
pub mod Additions
pub mod RunLaws
pub mod LineLaws
pub mod AllRuns
pub mod AllLines
pub mod LaterLines
pub mod SameRows
pub mod Promises
