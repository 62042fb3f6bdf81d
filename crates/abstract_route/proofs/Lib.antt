pub mod RowLemmas
pub mod HeightLemmas
pub mod FitLemmas
pub mod BeatsLemmas
pub mod OneRouteLemmas
