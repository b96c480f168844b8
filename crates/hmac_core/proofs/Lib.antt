pub mod Lengths
mod Padding
