pub mod Asks
pub mod Covered
pub mod Deliveries
pub mod Drives
pub mod Scripts
pub mod Starts
pub mod Steps
pub mod Counts
