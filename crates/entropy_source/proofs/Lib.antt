mod Stands
pub mod Leading
mod Reading
mod Joining
mod Fresh
mod Starts
mod Conditioning
mod Filling
mod Ends
pub mod Joins
pub mod Counts
pub mod Portions
mod Answering
