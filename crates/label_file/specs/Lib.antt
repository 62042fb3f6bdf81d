pub mod Communities
pub mod Values
pub mod Sources
pub mod Tables
pub mod File
pub mod Facts
