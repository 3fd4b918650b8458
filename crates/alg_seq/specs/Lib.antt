pub mod Storing
pub mod Nesting
