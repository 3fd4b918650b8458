pub mod RingFindings
pub mod Checking
pub mod Calls
pub mod Filtering
