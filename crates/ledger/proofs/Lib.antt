pub mod Places
pub mod Lift
pub mod Meeting
pub mod Doing
