-- What the steps of this crate's code compute on the way, and no definition of the standard.
-- This project's own.
pub mod Blocks
pub mod Inversion
pub mod Power
