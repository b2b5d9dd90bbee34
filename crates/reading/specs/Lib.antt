-- In the order in which to read them. `Kinds`, `Scopes` and `Representations` serve private functions alone, those of the reader and those that read the
-- steps of models.
pub mod Pattern
pub mod Rule
pub mod File
pub mod Refusals
pub mod Faults
pub mod Nodes
pub mod Numbered
pub mod Promises
pub mod Kinds
pub mod Scopes
pub mod Representations
