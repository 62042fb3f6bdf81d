pub mod Commands
pub mod Serving
pub mod Asked
pub mod Line
pub mod Apps
pub mod Given
