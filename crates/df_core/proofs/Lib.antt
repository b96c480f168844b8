pub mod Cutting
pub mod Ending
pub mod Lengths
pub mod Passes
