pub mod Limits
pub mod Sayings
pub mod ConfirmedLaws
pub mod HeadlineLaws
pub mod EndLaws
