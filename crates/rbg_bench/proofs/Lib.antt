pub mod Asking
pub mod Drawing
pub mod Generates
pub mod Iterations
pub mod Making
pub mod RunByRun
