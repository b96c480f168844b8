pub mod Source
pub mod Draws
pub mod Counted
pub mod Outcomes
pub mod Views
pub mod Causes
pub mod Reads
pub mod Scaffolding
