pub mod Rounds
pub mod Steps
pub mod Arrivals
pub mod Idle
pub mod Results
pub mod Reuse
pub mod Turning
