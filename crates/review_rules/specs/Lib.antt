pub mod State
pub mod Rules
pub mod Changes
pub mod Judging
pub mod Laws
pub mod Restoring
