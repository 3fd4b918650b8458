pub mod OrecRule
pub mod OrecRely
pub mod OrecReading
pub mod OrecOwning
pub mod OrecSteps
pub mod OrecLaws
pub mod OrecRuns
pub mod EagerRuns
