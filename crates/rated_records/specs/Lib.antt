pub mod Laws
pub mod Runs
pub mod Tables
