pub mod Regions
pub mod Statements
