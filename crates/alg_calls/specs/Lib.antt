pub mod Costs
pub mod Buffers
