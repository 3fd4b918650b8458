pub mod Counters
pub mod Chains
pub mod ChainWalks
pub mod Structures
pub mod Statements
