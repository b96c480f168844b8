pub mod Fours
pub mod Lengths
pub mod Rows
pub mod SeedLemmas
