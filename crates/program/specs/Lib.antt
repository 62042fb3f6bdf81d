pub mod DeskEnding
pub mod DeskSteps
pub mod Complete
pub mod Laws
