pub mod Three
pub mod Rounds
