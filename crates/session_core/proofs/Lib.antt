pub mod Feeding
pub mod Replies
pub mod Heads
pub mod Answering
pub mod GoingOn
pub mod Pieces
pub mod Whole
pub mod Weaker
