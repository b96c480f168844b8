pub mod Drbg
pub mod State
