pub mod Weights
pub mod DrawLaws
pub mod Lists
pub mod Replaying
pub mod RowSums
pub mod Totals
pub mod SummaryLaws
pub mod ParsedLaws
