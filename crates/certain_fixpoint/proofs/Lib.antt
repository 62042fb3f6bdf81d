pub mod CertainLemmas
pub mod PassLemmas
