pub mod RegionLemmas
pub mod VersionOne
