pub mod Watches
