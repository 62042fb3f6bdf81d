pub mod HeadLemmas
pub mod RestoreLemmas
pub mod OutLemmas
pub mod IndexLemmas
pub mod ValidLemmas
