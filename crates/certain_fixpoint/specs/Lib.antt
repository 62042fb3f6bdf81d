pub mod Certain
pub mod CertainSet
pub mod OnTheWay
