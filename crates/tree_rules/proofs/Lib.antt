pub mod AnswerLemmas
pub mod ByHandLemmas
pub mod Parting
pub mod UseLemmas
pub mod WalkLemmas
