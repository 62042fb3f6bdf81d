pub mod Rows
pub mod Heights
pub mod Fits
pub mod OneRoute
pub mod Beats
pub mod Laws
