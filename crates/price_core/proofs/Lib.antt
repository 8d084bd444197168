pub mod AffordLemmas
pub mod CeilingLemmas
pub mod LawfulLemmas
pub mod Prices
