pub mod CtrDrbg
pub mod State
pub mod Lengths
pub mod Refusals
