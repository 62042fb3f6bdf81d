pub mod OrderLemmas
pub mod RuleLemmas
pub mod WordStepLemmas
pub mod RowWordLemmas
pub mod ViewLemmas
pub mod PassLemmas
