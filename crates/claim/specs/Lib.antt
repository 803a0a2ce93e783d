pub mod Calls
pub mod Series
pub mod Claim
pub mod Restored
