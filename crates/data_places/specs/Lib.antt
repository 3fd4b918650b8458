pub mod Codes
pub mod Fits
