pub mod HmacDrbg
pub mod State
