pub mod SetLemmas
pub mod AnswerLemmas
pub mod VerdictLemmas
pub mod FileLemmas
pub mod BookLemmas
pub mod RunLemmas
