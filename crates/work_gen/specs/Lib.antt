pub mod Draws
pub mod Generated
pub mod Summaries
pub mod Limits
