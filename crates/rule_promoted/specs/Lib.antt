pub mod PromotedRule
pub mod PromotedSteps
pub mod PromotedRuns
pub mod RaisingSteps
