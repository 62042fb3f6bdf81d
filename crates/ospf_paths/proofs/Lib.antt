pub mod Facts
pub mod Passes
pub mod LawLemmas
pub mod Existence
pub mod ListLemmas
pub mod SlackLinks
pub mod FailureLaws
