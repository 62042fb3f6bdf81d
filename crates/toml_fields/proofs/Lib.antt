pub mod DocumentLemmas
pub mod TableLemmas
pub mod Gathered
pub mod PlaceLemmas
