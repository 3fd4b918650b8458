pub mod Dealing
pub mod Handles
pub mod InTurn
pub mod Leaving
pub mod Looking
pub mod Values
pub mod WritesInTurn
