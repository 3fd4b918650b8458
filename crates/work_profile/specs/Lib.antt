pub mod Profiles
pub mod Policies
pub mod PolicyWords
pub mod Limits
