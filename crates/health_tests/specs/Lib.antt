pub mod Cutoffs
pub mod Windows
pub mod Numbers
pub mod Blocks
pub mod Stands
pub mod Left
