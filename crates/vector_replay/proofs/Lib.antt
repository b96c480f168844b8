mod Judging
mod Reporting
pub mod Pieced
mod Writing
