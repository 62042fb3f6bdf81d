pub mod Numbers
pub mod Head
pub mod HeadEnd
pub mod Fields
pub mod Paths
pub mod Plans
pub mod Bodies
pub mod Asks
