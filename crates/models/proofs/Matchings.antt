-- Matching: reading a list of pairs, the relation that it is, the partners of steps, and what is answered.
pub mod PairChecks
pub mod RelationLaws
pub mod PairsRead
pub mod PartnerLaws
pub mod Bisimulations
pub mod AnswerLaws
pub mod ReachedPairs
pub mod PairLists
pub mod OneAnswer
pub mod RefusalOrder
pub mod AfterYes
pub mod AnsweredSteps
pub mod GreatestLists
