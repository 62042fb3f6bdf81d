pub mod Order
pub mod Rising
pub mod Rule
pub mod WordSteps
pub mod RowLists
pub mod RowWords
pub mod Pass
pub mod Laws
