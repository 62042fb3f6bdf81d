pub mod Answer
pub mod Verdict
pub mod Judged
pub mod Laws
