pub mod View
pub mod Closed
pub mod Implied
pub mod OnTheWay
pub mod Laws
