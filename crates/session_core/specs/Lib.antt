pub mod Ends
pub mod Answers
pub mod Inbox
pub mod Session
pub mod Lending
