-- What each function refuses: counting and filling first, then explaining; then, with the tables that are unfit, running and judging, and what is
-- about rules on duty; then matching. Last, the three demands.
pub mod Refused
pub mod RefusedOnPage
pub mod RefusedReasons
pub mod UnfitTables
pub mod RefusedCalls
pub mod RefusedOnDuty
pub mod RefusedMatches
pub mod Demands
