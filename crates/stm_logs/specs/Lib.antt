pub mod Buckets
pub mod Probing
pub mod LogStates
pub mod Filters
pub mod Statements
pub mod Marks
pub mod ShortLogs
