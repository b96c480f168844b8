pub mod Df
pub mod KeyLen
pub mod Chains
pub mod Holds
pub mod Examples
