pub mod Answering
pub mod Asking
pub mod Counting
pub mod Hearing
pub mod Orders
pub mod Settling
pub mod Starting
