pub mod Faults
pub mod Content
pub mod Entries
pub mod Calls
pub mod Shelf
pub mod Machine
pub mod Sink
pub mod Memory
