mod Written
pub mod Settling
