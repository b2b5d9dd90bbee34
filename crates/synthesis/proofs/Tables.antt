-- Rows, tables as monitors, and what counting and filling promise.
pub mod Rows
pub mod WellFormedTables
pub mod FilledTables
pub mod TableMonitors
pub mod SynthesisOutcomes
pub mod Limits
pub mod Equations
pub mod Built
pub mod Pages
pub mod Previews
pub mod PreviewRefusals
