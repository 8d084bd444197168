pub mod Answers
pub mod Explanations
pub mod Faults
pub mod Files
pub mod Printouts
