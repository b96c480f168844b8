pub mod Load
pub mod Made
pub mod Tally
pub mod Tallied
pub mod Weights
pub mod Fits
