pub mod Turns
pub mod Calm
pub mod Repeats
