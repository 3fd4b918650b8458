mod OperationLaws
mod RegionKeeping
mod WellLaws
mod KeepingLaws
mod RunLaws
mod Rooms
mod ReplayLaws
mod FitLaws
mod MergeLaws
mod ReportLaws
pub mod StructureLaws
pub mod KeptLogs
