pub mod StepLemmas
pub mod ForwardLemmas
pub mod LoopLemmas
pub mod QuietLemmas
pub mod MeaningLemmas
