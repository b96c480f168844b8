pub mod Three
pub mod Counting
