-- Lists of records, of which at most some are let through: patterns, and the records of other files.
pub mod RecordWays
pub mod RecordsAccepted
pub mod RecordsAgree
pub mod RecordsRead
