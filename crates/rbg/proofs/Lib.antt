pub mod Padding
pub mod Reading
pub mod Holding
