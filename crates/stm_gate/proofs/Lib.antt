mod Closing
mod InstallLaws
mod FenceLaws
pub mod Peeling
pub mod KeptLaws
pub mod Standing
mod LookingLaws
pub mod PromotingLaws
pub mod Told
pub mod Opening
pub mod DirectLaws
pub mod MarkLaws
pub mod Irrevocable
pub mod RollItems
pub mod Cells
pub mod CellLogs
