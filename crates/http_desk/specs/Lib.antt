pub mod Answer
pub mod Ruled
pub mod Serves
