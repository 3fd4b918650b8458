-- The law of each kind of step, and its lift to the rule with a range, a file for each family.
pub mod RecordLaws
pub mod RingLaws
pub mod ClosingLaws
pub mod RestLaws
pub mod InstallingLaws
pub mod PromotionLaws
pub mod RingPromotionLaws
pub mod BesideLaws
pub mod Allowing
pub mod Sparing
pub mod SparingMore
pub mod Lifted
pub mod FencedRest
pub mod FencingLaws
pub mod GivingLaws
