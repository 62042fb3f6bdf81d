pub mod TableLemmas
pub mod PutLemmas
pub mod PlaceLemmas
pub mod KeptLemmas
