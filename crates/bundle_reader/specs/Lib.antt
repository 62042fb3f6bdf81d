pub mod Bundle
pub mod Files
