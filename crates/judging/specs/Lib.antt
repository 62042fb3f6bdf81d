pub mod Steps
pub mod Inputs
pub mod Judgements
