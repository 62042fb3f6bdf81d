pub mod DistanceList
pub mod OnTheWay
pub mod Laws
