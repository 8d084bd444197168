pub mod AnswerLemmas
pub mod RunLemmas
