pub mod KeepingLemmas
pub mod PutLemmas
pub mod OrderLemmas
pub mod FileLemmas
pub mod CopyLemmas
