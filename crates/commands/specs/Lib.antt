pub mod Refusals
pub mod Folder
pub mod Stops
pub mod CheckEnding
pub mod StableEnding
pub mod Running
