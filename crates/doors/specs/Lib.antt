pub mod Door
pub mod Stop
pub mod Reading
pub mod Memory
