pub mod OrderLaws
pub mod ParseLaws
mod PieceLaws
pub mod HeaderLaws
pub mod ParsedLaws
pub mod ReportLaws
mod OpTextLaws
mod HeaderTextLaws
pub mod TextLaws
mod HeaderWrittenLaws
pub mod WrittenLaws
pub mod RegionLaws
pub mod PartingLaws
pub mod ReadingLaws
pub mod Numbers
pub mod Giving
