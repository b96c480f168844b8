pub mod State
pub mod Statuses
pub mod Health
