pub mod GivingLemmas
pub mod TakingLemmas
