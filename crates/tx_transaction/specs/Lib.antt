pub mod Words
pub mod WordLaws
pub mod RangeLaws
pub use Rattle.data_effects.specs.Effects
pub use Rattle.data_effects.specs.EffectLaws
pub use Rattle.data_effects.specs.FreshLaws
