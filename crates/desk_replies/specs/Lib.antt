pub mod Replies
pub mod RuleWords
pub mod Views
pub mod Laws
