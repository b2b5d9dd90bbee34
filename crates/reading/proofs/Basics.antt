-- Outcomes, places and lists.
pub mod Outcomes
pub mod Results
pub mod AllLaws
pub mod ByteLaws
pub mod EncodeLaws
pub mod ListLaws
pub mod Places
