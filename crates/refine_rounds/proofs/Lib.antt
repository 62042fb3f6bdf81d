pub mod RoundLemmas
pub mod StepLemmas
pub mod ArrivalLemmas
pub mod ResultLemmas
pub mod IdleLemmas
pub mod ReuseLemmas
