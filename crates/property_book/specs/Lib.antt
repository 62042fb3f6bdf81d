pub mod Book
pub mod Applicable
pub mod Forwarding
pub mod Meaning
pub mod Laws
pub mod QuietLaws
pub mod Outcomes
