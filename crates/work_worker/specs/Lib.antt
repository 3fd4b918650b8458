pub mod Installs
pub mod Courses
pub mod Goings
pub mod Tellings
pub mod Workers
pub mod Rooms
pub mod Leavings
pub mod RiseCovers
