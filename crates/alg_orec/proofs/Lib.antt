mod Picking
mod RecordFindingLaws
pub mod OthersLaws
pub mod Seats
pub mod ReadItems
pub mod Passing
pub mod Validity
pub mod LoadLaws
pub mod RecordReads
pub mod Lazy
pub mod NestingOpening
pub mod ReadCalls
pub mod Releasing
pub mod LockingLaws
pub mod Proving
pub mod AgainLaws
pub mod PromotingLaws
pub mod GrantOpening
pub mod Writing
pub mod Eager
pub mod RecordOpening
pub mod CommitOpening
pub mod CallLaws
pub mod LockAllLaws
pub mod CountingLaws
