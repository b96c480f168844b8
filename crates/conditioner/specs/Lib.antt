pub mod Conditioned
pub mod Holds
