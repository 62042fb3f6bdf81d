pub mod Stored
pub mod Index
