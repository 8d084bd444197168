pub mod ArmingLemmas
pub mod AsciiDigits
pub mod NumberLemmas
