pub mod LabellingLemmas
pub mod LinkLemmas
pub mod OptionLemmas
pub mod ValueLemmas
pub mod FactLemmas
