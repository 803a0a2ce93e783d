pub mod Runs
pub mod ByEntry
