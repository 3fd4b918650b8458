pub mod Rows
pub mod Jobs
pub mod Plans
pub mod WorkRegions
pub mod Callers
pub mod Verdicts
pub mod Endings
pub mod Helping
