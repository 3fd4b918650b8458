pub mod Bells
pub mod Stripes
