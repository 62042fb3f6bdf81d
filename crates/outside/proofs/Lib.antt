pub mod SinkLemmas
pub mod PathLemmas
pub mod EntryLemmas
pub mod ListingLemmas
