pub mod DeleteLemmas
pub mod OptionLemmas
pub mod PathLemmas
pub mod RoutingLemmas
pub mod FindingLemmas
pub mod ChainLemmas
pub mod OriginLemmas
pub mod ReadingLemmas
