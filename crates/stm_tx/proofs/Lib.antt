pub mod Beginning
pub mod Stopping
pub mod CostLaws
pub mod MarkLaws
pub mod FixedLaws
pub mod StripeLaws
pub mod LogLaws
