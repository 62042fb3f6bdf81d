pub mod Links
pub mod Names
pub mod Ports
pub mod Files
pub mod Book
