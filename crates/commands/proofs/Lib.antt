-- Lines from position to position, what is printed of them, the programs' tables, the calls that `sift` makes, what `meets` answers, the text of the rule page, and the programs' limit; then the promises.
pub mod Leading
pub mod Printing
pub mod ProgramTables
pub mod SiftingLaws
pub mod JudgingFiles
pub mod PageText
pub mod KeepingLimit
pub mod Promises
