pub mod Results
pub mod Counts
pub mod Verdicts
pub mod Laws
