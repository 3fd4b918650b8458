pub mod Codes
pub mod Lends
pub mod Opens
pub mod Owned
pub mod Reads
pub mod Says
pub mod Shown
pub mod Writes
