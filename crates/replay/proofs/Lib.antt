pub mod Replied
pub mod Names
