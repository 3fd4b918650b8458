pub mod Counts
pub mod CountLaws
pub mod Lefts
pub mod Pasts
pub mod Seats
pub mod SeatLaws
