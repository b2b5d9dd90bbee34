-- Lists and tests on them.
pub mod ListTests
-- The theory of a run: verdicts and counts, its three ways, tables, calls one after the other.
pub mod WithVerdicts
pub mod Counting
pub mod RunCases
pub mod Tables
pub mod Refusals
pub mod Joining
pub mod Histories
pub mod Conservation
pub mod Leaving
pub mod BuiltTables
pub mod DemandTwo
pub mod SiftingAlike
pub mod Reasons
-- Rules on duty, call by call: comings, goings, and one monitor of all rules.
pub mod PlaceLaws
pub mod DutyCases
pub mod TogetherLaws
pub mod SoundStates
pub mod ComingAndGoing
pub mod TogetherRuns
pub mod DutyRuns
pub mod OneOnDuty
pub mod DutyCalls
pub mod DutyMonitors
-- Rules on duty over a day: each rule beside its spell, event after event, and the join.
pub mod Alongside
pub mod Standing
pub mod DutyDrops
pub mod Days
pub mod DutyDays
pub mod SpellDays
pub mod SiftedMore
pub mod JoinedDays
pub mod FilledInPlace
-- What the proofs of the functions use.
pub mod RosterLaws
pub mod Overlays
pub mod Entries
pub mod Buffers
pub mod Stepping
pub mod ServingSteps
pub mod Outcomes
-- The promises.
pub mod Promises
pub mod DutyPromises
pub mod SpellPromises
