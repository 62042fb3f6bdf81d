pub mod SetOrder
pub mod SetList
pub mod Places
pub mod Laws
pub mod Steps
