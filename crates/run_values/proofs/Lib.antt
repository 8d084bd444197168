pub mod Judging
pub mod Listing
pub mod Placing
