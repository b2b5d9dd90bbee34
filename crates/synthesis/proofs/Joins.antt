-- Rules joined by "both": what the join is violated by, and that it is well formed.
pub mod JoinLaws
