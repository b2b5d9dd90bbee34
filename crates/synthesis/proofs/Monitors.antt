-- Runs of monitors, and what it is to monitor a rule.
pub mod Runs
pub mod Verdicts
pub mod RuleMonitor
pub mod MonitorLaws
pub mod Renaming
pub mod DroppingAlike
pub mod Corresponding
