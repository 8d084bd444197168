pub mod Fields
pub mod Tables
pub mod Undiffering
pub mod Unprinted
