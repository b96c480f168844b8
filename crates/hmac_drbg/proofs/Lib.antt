pub mod Lengths
pub mod Updates
mod Updating
mod Filling
