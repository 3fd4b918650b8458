pub mod Descs
pub mod Fencing
pub mod Nesting
pub mod Costs
pub mod Resting
pub mod Rings
