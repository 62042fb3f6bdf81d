pub mod ReadLemmas
pub mod FileLemmas
