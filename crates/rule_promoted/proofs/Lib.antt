mod PromotedRunLaws
pub mod PromotedLaws
pub mod OrecGranted
pub mod RaisingLaws
pub mod ReleaseRanks
