pub mod Alike
pub mod Merging
pub mod Numbering
pub mod Returning
pub mod Roominess
pub mod Seeing
