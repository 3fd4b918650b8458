pub mod Sums
pub mod Statements
