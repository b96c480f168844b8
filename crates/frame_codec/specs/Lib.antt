pub mod Rows
pub mod Scripts
pub mod Grammar
pub mod Frames
pub mod Heads
pub mod Decoding
pub mod Replying
