pub mod Answering
pub mod Jobbing
pub mod ListenLemmas
pub mod Parting
pub mod PlayLemmas
pub mod Resaid
pub mod Saying
pub mod Tabling
