pub mod Laying
pub mod LayingLaws
pub mod ToldLaws
