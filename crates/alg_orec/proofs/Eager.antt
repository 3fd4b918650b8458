-- What the calls of OrecEager come to.
pub mod EagerReleasing
pub mod EagerBackLaws
pub mod EagerTakingLaws
pub mod EagerProving
pub mod EagerCalls
pub mod EagerLaws
pub mod EagerHolding
pub mod EagerReadLaws
pub mod EagerWriteLaws
pub mod EagerOpening
pub mod EagerNestingLaws
pub mod EagerRollingLaws
pub mod EagerCommitLaws
pub mod EagerDirectLaws
pub mod EagerGrantLaws
