pub mod Statuses
pub mod RowSets
pub mod AbstractMap
pub mod Transfer
pub mod LocalRow
pub mod OnTheWay
pub mod Laws
pub mod OneRoute
