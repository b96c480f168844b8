pub mod Field
pub mod Aes
pub mod Keys
pub mod Examples
pub mod Code
