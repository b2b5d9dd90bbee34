-- What is said of a rule and a model, and what the table of a rule enforces.
pub mod TablesEnforce
pub mod Accepting
pub mod JudgingOrder
pub mod JudgingLaws
pub mod MeetingAlike
pub mod Judgment
