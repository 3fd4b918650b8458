pub mod Apart
pub mod Messages
pub mod Outcomes
pub mod Statuses
pub mod Headline
pub mod Exits
pub mod Checks
pub mod Confirming
