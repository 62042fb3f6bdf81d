pub mod LinkLemmas
pub mod FileLemmas
