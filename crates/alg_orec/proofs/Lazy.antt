-- What the calls of OrecLazy come to.
pub mod LazyLaws
pub mod LazyNestingLaws
pub mod LazyCommitLaws
pub mod LazyEntryLaws
pub mod LazyGrantLaws
pub mod LazyEndingLaws
pub mod LazyOpening
