pub mod Locked
pub mod Beginning
pub mod Undoing
pub mod Keeping
pub mod Pushing
pub mod Granting
mod TmlLaws
mod TmlOpening
pub mod NestingLaws
pub mod CountingLaws
pub mod RollingLaws
