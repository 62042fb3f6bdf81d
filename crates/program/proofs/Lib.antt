pub mod DeskLemmas
pub mod FoundLemmas
pub mod MergeLemmas
pub mod CompleteLemmas
