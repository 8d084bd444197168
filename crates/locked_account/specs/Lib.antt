pub mod Closing
pub mod Room
pub mod Seats
