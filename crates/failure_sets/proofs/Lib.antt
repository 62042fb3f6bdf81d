pub mod CountLemmas
pub mod ListLemmas
pub mod PermittedLemmas
pub mod OrderLemmas
pub mod AllLemmas
pub mod LawLemmas
pub mod StepLemmas
pub mod NumberLemmas
