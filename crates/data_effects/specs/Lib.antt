pub mod Effects
pub mod Accesses
pub mod EffectLaws
pub mod FreshLaws
pub mod Keys
pub mod Tags
pub mod Statements
